-- What is seen in a part of the tree that is spelled is what the grammar allows: no array without an element, but for a
-- bad length, and no `&` before `*`.
use Rattle.std.proofs.Common.{◌≡◌, ℕ, ◌+◌, ◌<◌, List, [], ◌∷◌, ◌++◌, Bool, true, false, length, refl, arith}
use Rattle.std.specs.Prelude.{ℤ, negsuc, neg_ℤ, nat_lt, flat_map, is_some, not, ◌&&◌, ◌||◌, if◌then◌else◌, Option, Some, None}
use Rattle.std.specs.Ordering.{int_eq}
use Rattle.sat_base.specs.declared.name.At.{At}
use Rattle.sat_base.specs.declared.name.Named.{Named}
use Rattle.sat_base.specs.declared.width.Width.{Width}
use Rattle.c_scopes.specs.Scopes.{Known}
use Rattle.c_tree.specs.declared.call.Arg.{Arg}
use Rattle.c_tree.specs.declared.declaration.Decl.{Decl}
use Rattle.c_tree.specs.declared.declaration.Dim.{Dim}
use Rattle.c_tree.specs.declared.declaration.Init.{Init}
use Rattle.c_tree.specs.declared.declaration.Objects.{Objects}
use Rattle.c_tree.specs.declared.declaration.Row.{Row}
use Rattle.c_tree.specs.declared.expression.Expr.{Expr}
use Rattle.c_tree.specs.declared.expression.ExprKind.{ExprKind}
use Rattle.c_tree.specs.declared.expression.ExprKind.TheVariants as kind
use Rattle.c_tree.specs.declared.expression.UnaryMark.{UnaryMark}
use Rattle.c_tree.specs.declared.expression.UnaryMark.TheVariants as unary
use Rattle.c_tree.specs.declared.function.Function.{Function}
use Rattle.c_tree.specs.declared.function.Param.{Param}
use Rattle.c_tree.specs.declared.program.Item.{Item}
use Rattle.c_tree.specs.declared.simple.Simple.{Simple}
use Rattle.c_tree.specs.declared.statement.Stmt.{Stmt}
use Rattle.c_grammar.specs.declared.symbol.Symbol.TheVariants.{CloseBrace, Comma, Semicolon}
use Rattle.c_grammar.specs.Grammar.{Rule}
use Rattle.c_grammar.specs.Grammar as rule
use Rattle.c_grammar.specs.Nodes.{Node}
use Rattle.c_grammar.specs.Nodes as a
use Rattle.c_grammar.specs.Parts.{Token, Part, word, each, followed}
use Rattle.c_seen.specs.declared.functions.Declaration.{Declaration}
use Rattle.c_seen.specs.declared.seen.Meaning.{Meaning}
use Rattle.c_seen.specs.declared.seen.Need.{Need}
use Rattle.c_seen.specs.declared.seen.Need.TheVariants as needs
use Rattle.c_seen.specs.declared.seen.Seen.{Seen}
use Rattle.c_seen.specs.declared.seen.Seen.TheVariants as seen
use Rattle.c_seen.specs.declared.seen.Wanted.{Wanted}
use Rattle.c_seen.specs.declared.statements.Spot.{Spot}
use Rattle.c_seen.specs.Declarations.{number, number_if_any, numbers, row, dimension, initialiser, object, seen_in_declared, after_declared, seen_in_objects, after_objects, seen_in_lists, after_lists, name_of_parameter, seen_in_parameter, after_parameter, seen_in_parameters, after_parameters}
use Rattle.c_seen.specs.Expressions.{no_view, opposite, seen_in_kind, constant_of_kind, integer_of_kind, seen_in_place, seen_in_call, seen_in_argument, arguments_from}
use Rattle.c_seen.specs.Meanings.{Names, wanted_at, is_taken}
use Rattle.c_seen.specs.Sources.{body_spot, seen_in_body, seen_in_function, seen_in_item, after_function, after_item, functions_after, seen_in_items}
use Rattle.c_seen.specs.Statements.{seen_in_simple, simples, seen_in_statement, seen_in_block, seen_in_statements}
use Rattle.c_seen.proofs.Expressions_seen as sees
use Rattle.c_seen.proofs.Statements_seen as shows
use Rattle.lawful_sources.proofs.Passing.{Each, none, next, joined}
use Rattle.lawful_names.specs.Spelled.{has_elements, is_star}
use Rattle.lawful_texts.proofs.Lengths.{IsFull, HasLength, elements-stand}
use Rattle.lawful_texts.proofs.Walk.{Parts, ends, marks, stands, split}

abbrev pub passes : Seen → Bool
passes (seen.Place place) = not (place.ampersand && is_star place.marks)
passes (seen.Object one) = one.has_bad_length || has_elements one.kind one.elements
passes s = true

abbrev pub Pass : List Seen → Type 0
Pass list = Each passes list

-- ---- what is claimed, whatever is in scope

pub record KindPasses (x : ExprKind) : Type 0 where
  pub sees : (names : Names) (need : Need) → Pass (seen_in_kind x names need)
  pub constant : (at : At) → Pass (constant_of_kind x at)

pub record Brackets (rows cols : Option Dim) : Type 0 where
  pub first : (names : Names) → Pass (dimension names rows)
  pub second : (names : Names) → Pass (dimension names cols)
  pub long : HasLength cols

pub record StartPasses (start : Init) : Type 0 where
  pub sees : (names : Names) (decl : Decl) → Pass (initialiser names decl start)
  pub full : IsFull start

pub record ValuesPass (values : List Expr) : Type 0 where
  pub sees : (names : Names) → Pass (numbers names values)
  pub full : 0 < length values

abbrev pub Claim : Node → ℕ → Type 0
Claim (a.item x) k = (names : Names) (before : List (Known Declaration)) (item : ℕ) → Pass (seen_in_item names before item x)
Claim (a.objects o) k = (names : Names) (depth : ℕ) → Pass (seen_in_objects names depth o.decls)
Claim (a.declarator is_static is_const width d) k = (names : Names) (depth : ℕ) → Pass (seen_in_declared names depth d)
Claim (a.dimensions rows cols) k = Brackets rows cols
Claim (a.dimension d) k = (names : Names) → Pass (number_if_any names d.length)
Claim (a.start start) k = StartPasses start
Claim (a.view_start start) k = (names : Names) (decl : Decl) → Pass (initialiser names decl start)
Claim (a.row r) k = (names : Names) → Pass (row names r)
Claim (a.values vs) k = ValuesPass vs
Claim (a.function f) k = (names : Names) (before : List (Known Declaration)) (item : ℕ) → Pass (seen_in_function names before item f)
Claim (a.params ps) k = (names : Names) (is_defined : Bool) → Pass (seen_in_parameters names is_defined ps)
Claim (a.param p) k = (names : Names) (is_defined : Bool) → Pass (seen_in_parameter names is_defined p)
Claim (a.body b) k = (names : Names) (function : Function) → Pass (seen_in_body names function b)
Claim (a.block b) k = (names : Names) (spot : Spot) → Pass (seen_in_block b names spot)
Claim (a.stmt s) k = (names : Names) (spot : Spot) → Pass (seen_in_statement s names spot)
Claim (a.simples xs) k = (names : Names) → Pass (simples names xs)
Claim (a.simple x) k = (names : Names) → Pass (seen_in_simple names x)
Claim (a.place p) k = (names : Names) (need : Need) → Pass (seen_in_place p names false need)
Claim (a.named p) k = (names : Names) (ampersand : Bool) (need : Need) → Pass (seen_in_place p names ampersand need)
Claim (a.call c) k = (names : Names) (need : Need) → Pass (seen_in_call c names need)
Claim (a.args xs) k = (names : Names) (callee : Option Meaning) (place : ℕ) → Pass (arguments_from xs names callee place)
Claim (a.arg x) k = (names : Names) (wanted : Wanted) → Pass (seen_in_argument x names wanted)
Claim (a.maybe_expr e) k = (names : Names) → Pass (number_if_any names e)
Claim (a.expr e) k = KindPasses e.kind
Claim (a.chain n e) k = KindPasses e.kind
Claim (a.unary e) k = KindPasses e.kind
Claim n k = Unit {0}

abbrev pub own : Token → ℕ
own t = 0

abbrev pub All : List Part → ℕ → Type 0
All ps k = Parts Claim own ps k

-- ---- one thing, and one list after the other

nothing : Pass []
nothing = none passes

after : (s : Seen) (rest : List Seen) → passes s ≡ true → Pass rest → Pass (s ∷ rest)
after s rest p q = next passes s rest p q

both : (xs ys : List Seen) → Pass xs → Pass ys → Pass (xs ++ ys)
both xs ys p q = joined passes xs ys p q

number-passes : (e : Expr) → KindPasses e.kind → (names : Names) → Pass (number names e)
number-passes e one names = rw sees.expression-kind (one.sees names needs.Number)

no-view-passes : (need : Need) → Pass (no_view need)
no-view-passes needs.Number = nothing
no-view-passes needs.Target = nothing
no-view-passes (needs.View view first) = after _ [] refl nothing
no-view-passes needs.Nothing = nothing

if-passes : (test : Bool) (xs ys : List Seen) → Pass xs → Pass ys → Pass (if test then xs else ys)
if-passes true xs ys p q = p
if-passes false xs ys p q = q

opposite-passes : (integer : Option ℤ) (at : At) → Pass (opposite integer at)
opposite-passes None at = nothing
opposite-passes (Some value) at = if-passes (int_eq value (negsuc 2147483647)) [] _ nothing (after (seen.Constant at (neg_ℤ value)) [] refl nothing)

signed-passes : (mark : UnaryMark) (mark_at : At) (part : Expr) → KindPasses part.kind → (at : At) → Pass (constant_of_kind (kind.Unary mark mark_at part) at)
signed-passes unary.Plus mark_at part one at = rw sees.constant-Plus (one.constant part.at)
signed-passes unary.Minus mark_at part one at = rw sees.constant-Minus (opposite-passes (integer_of_kind part.kind) at)
signed-passes unary.Not mark_at part one at = rw sees.constant-Not nothing
signed-passes unary.Invert mark_at part one at = rw sees.constant-Invert nothing

no-star : (ampersand : Bool) → not (ampersand && false) ≡ true
no-star true = refl
no-star false = refl

name-passes : (names : Names) (name : Option Named) → Pass (name_of_parameter names name)
name-passes names None = nothing
name-passes names (Some name) = after _ [] refl nothing

-- ---- parts one after the other

arguments-pass : (xs : List Arg) {k : ℕ} → All (followed a.arg xs) k → (names : Names) (callee : Option Meaning) (place : ℕ) → Pass (arguments_from xs names callee place)
arguments-pass [] ends names callee place = nothing
arguments-pass (x ∷ xs) (marks (stands one rest)) names callee place = both _ _ (one names (wanted_at names.items callee place)) (arguments-pass xs rest names callee (place + 1))

numbers-pass : (xs : List Expr) {k : ℕ} → All (followed a.expr xs) k → (names : Names) → Pass (numbers names xs)
numbers-pass [] ends names = nothing
numbers-pass (x ∷ xs) (marks (stands one rest)) names = both _ _ (number-passes x one names) (numbers-pass xs rest names)

rows-pass : (xs : List Row) {k : ℕ} → All (followed a.row xs) k → (names : Names) → Pass (flat_map (row names) xs)
rows-pass [] ends names = nothing
rows-pass (x ∷ xs) (marks (stands one rest)) names = both _ _ (one names) (rows-pass xs rest names)

simples-pass : (xs : List Simple) {k : ℕ} → All (followed a.simple xs) k → (names : Names) → Pass (simples names xs)
simples-pass [] ends names = nothing
simples-pass (x ∷ xs) (marks (stands one rest)) names = both _ _ (one names) (simples-pass xs rest names)

parameters-pass : (ps : List Param) {k : ℕ} → All (followed a.param ps) k → (names : Names) (is_defined : Bool) → Pass (seen_in_parameters names is_defined ps)
parameters-pass [] ends names is_defined = nothing
parameters-pass (p ∷ ps) (marks (stands one rest)) names is_defined = both _ _ (one names is_defined) (parameters-pass ps rest (after_parameter names p) is_defined)

line-passes : (is_static is_const : Bool) (width : Width) (ds : List Decl) {k : ℕ} → All (followed (a.declarator is_static is_const width) ds) k → (names : Names) (depth : ℕ) → Pass (seen_in_objects names depth ds)
line-passes is_static is_const width [] ends names depth = nothing
line-passes is_static is_const width (d ∷ ds) (marks (stands one rest)) names depth = both _ _ (one names depth) (line-passes is_static is_const width ds rest (after_declared names depth d) depth)

lists-pass : (lists : List Objects) {k : ℕ} → All (each a.objects lists) k → (names : Names) (depth : ℕ) → Pass (seen_in_lists names depth lists)
lists-pass [] ends names depth = nothing
lists-pass (list ∷ lists) (stands one rest) names depth = both _ _ (one names depth) (lists-pass lists rest (after_objects names depth list.decls) depth)

statements-pass : (stmts : List Stmt) {k : ℕ} → All (each a.stmt stmts) k → (names : Names) (spot : Spot) → Pass (seen_in_statements stmts names spot)
statements-pass [] ends names spot = nothing
statements-pass (s ∷ stmts) (stands one rest) names spot = both _ _ (one names spot) (statements-pass stmts rest names spot)

pub items-pass : (list : List Item) {k : ℕ} → All (each a.item list) k → (names : Names) (before : List (Known Declaration)) (item : ℕ) → Pass (seen_in_items names before item list)
items-pass [] ends names before item = nothing
items-pass (x ∷ list) (stands one rest) names before item = both _ _ (one names before item) (items-pass list rest (after_item names item x) (functions_after names.items before item x) (item + 1))

-- ---- declarations

no-brackets : Brackets None None
no-brackets = record { first = λ names. nothing; second = λ names. nothing; long = tt }

declared-passes : (decl : Decl) → Brackets decl.rows decl.cols → ((names : Names) (of : Decl) → Pass (initialiser names of decl.init)) → ((is_local : Bool) → passes (seen.Object (object decl is_local)) ≡ true)
    → (names : Names) (depth : ℕ) → Pass (seen_in_declared names depth decl)
declared-passes decl brackets start sound names depth =
    both (dimension names decl.rows) _ (brackets.first names) (both (dimension names decl.cols) _ (brackets.second names) (both (initialiser names decl decl.init) _ (start names decl)
    (after (seen.Name decl.name.at (is_taken names decl.name.name depth false)) _ refl (after (seen.Object (object decl (nat_lt 0 depth))) [] (sound (nat_lt 0 depth)) nothing))))

function-passes : (f : Function) → ((names : Names) (is_defined : Bool) → Pass (seen_in_parameters names is_defined f.params)) → ((names : Names) (function : Function) → Pass (seen_in_body names function f.body))
    → (names : Names) (before : List (Known Declaration)) (item : ℕ) → Pass (seen_in_function names before item f)
function-passes f params body names before item =
    let inside : Names = after_function names item f in
    after _ _ refl (after _ _ refl (both _ _ (params inside (is_some f.body)) (body (after_parameters inside f.params) f)))

-- ---- the rules

pub by_rule : {n : Node} {early late : List Part} {i j : ℕ} → Rule n early late → All early i → All late j → Claim n (i + j)
-- items and objects
by_rule (rule.extern_flag e) all ends = rw e (λ names before item. nothing)
by_rule (rule.extern_int e) all ends = rw e (λ names before item. nothing)
by_rule (rule.item_objects e) (stands o ends) ends = rw e (λ names before item. o names 0)
by_rule (rule.item_function e) (stands f ends) ends = rw e f
by_rule (rule.objects {is_static = is_static} {is_const = is_const} {width = width} {d = d} {ds = ds} e) (stands specifiers (stands one rest)) ends =
    let line = split Claim own (followed (a.declarator is_static is_const width) ds) (word Semicolon ∷ []) rest in
    rw e (λ names depth. both _ _ (one names depth) (line-passes is_static is_const width ds line.earlier (after_declared names depth d) depth))
by_rule (rule.view {d = d} e) (marks (marks (stands start ends))) ends = declared-passes d (rw e no-brackets) (rw e start) (rw e (λ is_local. refl))
by_rule (rule.object {d = d} {rows = rows} {cols = cols} {start = start} e) (marks (stands brackets (stands s ends))) ends =
    declared-passes d (rw e brackets) (rw e s.sees) (rw e (λ is_local. elements-stand d rows cols start brackets.long s.full))
by_rule rule.scalar ends ends = no-brackets
by_rule rule.array (stands d ends) ends = record { first = d; second = λ names. nothing; long = tt }
by_rule (rule.table {length = length}) (stands d (marks (stands e (marks ends)))) ends = record { first = d; second = number-passes length e; long = refl }
by_rule rule.dimension (marks (stands e (marks ends))) ends = e
-- initialisers
by_rule rule.view_nothing ends ends = λ names decl. nothing
by_rule rule.view_one (marks (stands x ends)) ends = λ names decl. x names _
by_rule rule.nothing ends ends = record { sees = λ names decl. nothing; full = tt }
by_rule (rule.one {value = value}) (marks (stands x ends)) ends = record { sees = λ names decl. rw (sees.argument-Value, sees.expression-kind) (x.sees names _); full = tt }
by_rule rule.flat (marks (marks (stands v (marks ends)))) ends = record { sees = λ names decl. v.sees names; full = v.full }
by_rule (rule.rows {rows = rows}) (marks (marks (stands one rest))) ends =
    let more = split Claim own (followed a.row rows) (word CloseBrace ∷ []) rest in
    record { sees = λ names decl. both _ _ (one names) (rows-pass rows more.earlier names); full = omega arith }
by_rule (rule.rows_and_comma {rows = rows}) (marks (marks (stands one rest))) ends =
    let more = split Claim own (followed a.row rows) (word Comma ∷ word CloseBrace ∷ []) rest in
    record { sees = λ names decl. both _ _ (one names) (rows-pass rows more.earlier names); full = omega arith }
by_rule rule.row (marks (stands v (marks ends))) ends = v.sees
by_rule (rule.values {value = value} {values = values}) (stands one rest) ends =
    record { sees = λ names. both _ _ (number-passes value one names) (numbers-pass values rest names); full = omega arith }
by_rule (rule.values_and_comma {value = value} {values = values}) (stands one rest) ends =
    let more = split Claim own (followed a.expr values) (word Comma ∷ []) rest in
    record { sees = λ names. both _ _ (number-passes value one names) (numbers-pass values more.earlier names); full = omega arith }
-- functions
by_rule (rule.function {f = f} e) (stands given (marks (marks (stands params (marks (stands b ends)))))) ends = function-passes f (rw e params) (rw e b)
by_rule rule.no_params ends ends = λ names is_defined. nothing
by_rule rule.void_params (marks ends) ends = λ names is_defined. nothing
by_rule (rule.params {p = p} {ps = ps}) (stands one rest) ends = λ names is_defined. both _ _ (one names is_defined) (parameters-pass ps rest (after_parameter names p) is_defined)
by_rule (rule.number_param {name = name} e) all ends = rw e (λ names is_defined. after _ _ refl (name-passes names name))
by_rule (rule.view_param {name = name} e) all ends = rw e (λ names is_defined. after _ _ refl (name-passes names name))
by_rule (rule.array_param {name = name} e) (stands type (stands called (stands d ends))) ends = rw e (λ names is_defined. both _ _ (d names) (after _ _ refl (name-passes names name)))
by_rule rule.declared all ends = λ names function. nothing
by_rule rule.defined (stands b ends) ends = λ names function. b names (body_spot function)
-- statements
by_rule (rule.block {b = b}) (marks rest) ends =
    let whole = split Claim own (each a.objects b.objects ++ each a.stmt b.stmts) (word CloseBrace ∷ []) rest in
    let inner = split Claim own (each a.objects b.objects) (each a.stmt b.stmts) whole.earlier in
    λ names spot. rw shows.block-parts (both _ _ (lists-pass b.objects inner.earlier names spot.depth) (statements-pass b.stmts inner.later (after_lists names spot.depth b.objects) spot))
by_rule (rule.empty e) ends all = rw e (λ names spot. rw shows.sees-Empty (after _ [] refl nothing))
by_rule (rule.block_stmt e) ends (stands b ends) = rw e (λ names spot. rw shows.sees-Block (after _ _ refl (b names _)))
by_rule (rule.simple_stmt e) ends (stands x (marks ends)) = rw e (λ names spot. rw shows.sees-Simple (after _ _ refl (x names)))
by_rule (rule.if_ {cond = cond} e) ends (marks (marks (stands c (marks (stands b ends))))) =
    rw e (λ names spot. rw shows.sees-If (after _ _ refl (both _ _ (number-passes cond c names) (both _ [] (b names spot) nothing))))
by_rule (rule.if_else {cond = cond} e closed) ends (marks (marks (stands c (marks (stands b (marks (stands o ends))))))) =
    rw e (λ names spot. rw shows.sees-If (after _ _ refl (both _ _ (number-passes cond c names) (both _ _ (b names spot) (o names spot)))))
by_rule (rule.while_ {cond = cond} e) ends (marks (marks (stands c (marks (stands b ends))))) =
    rw e (λ names spot. rw shows.sees-While (after _ _ refl (both _ _ (number-passes cond c names) (b names _))))
by_rule (rule.do_ {cond = cond} e) ends (marks (stands b (marks (marks (stands c (marks (marks ends))))))) =
    rw e (λ names spot. rw shows.sees-Do (after _ _ refl (both _ _ (b names _) (number-passes cond c names))))
by_rule (rule.for_ e) ends (marks (marks (stands f (marks (stands c (marks (stands l (marks (stands b ends))))))))) =
    rw e (λ names spot. rw shows.sees-For (after _ _ refl (both _ _ (f names) (both _ _ (c names) (both _ _ (l names) (b names _))))))
by_rule (rule.break e) ends all = rw e (λ names spot. rw shows.sees-Break (after _ _ refl (after _ [] refl nothing)))
by_rule (rule.continue e) ends all = rw e (λ names spot. rw shows.sees-Continue (after _ _ refl (after _ [] refl nothing)))
by_rule (rule.return e) ends (marks (stands v (marks ends))) = rw e (λ names spot. rw shows.sees-Return (after _ _ refl (after _ _ refl (v names))))
by_rule rule.no_simples ends ends = λ names. nothing
by_rule (rule.simples {xs = xs}) (stands one rest) ends = λ names. both _ _ (one names) (simples-pass xs rest names)
by_rule (rule.assign {value = value} e) (stands p (marks (stands v ends))) ends = rw e (λ names. both _ _ (p names needs.Target) (number-passes value v names))
by_rule (rule.step_after e) (stands p (marks ends)) ends = rw e (λ names. p names false needs.Target)
by_rule (rule.step_before e) (marks (stands p ends)) ends = rw e (λ names. p names needs.Target)
by_rule (rule.set_overflow {value = value} e) (marks (marks (stands v ends))) ends = rw e (number-passes value v)
by_rule (rule.simple_call e) (stands c ends) ends = rw e (λ names. c names needs.Nothing)
-- places and calls
by_rule rule.place_named (stands p ends) ends = λ names need. p names false need
by_rule (rule.deref e) ends all = rw e (λ names need. rw sees.place-Deref (after _ [] refl nothing))
by_rule (rule.plain e) ends all = rw e (λ names ampersand need. rw sees.place-Plain (after _ [] (no-star ampersand) nothing))
by_rule (rule.index {index = index} e) ends (marks (marks (stands x (marks ends)))) =
    rw e (λ names ampersand need. rw sees.place-Index (after _ _ (no-star ampersand) (number-passes index x names)))
by_rule (rule.index2 {first = first} {second = second} e) ends (marks (marks (stands x (marks (marks (stands y (marks ends))))))) =
    rw e (λ names ampersand need. rw sees.place-Index2 (after _ _ (no-star ampersand) (both _ _ (number-passes first x names) (number-passes second y names))))
by_rule (rule.call e) (marks (marks (stands xs (marks ends)))) ends = rw e (λ names need. rw sees.call-arguments (after _ _ refl (xs names _ 0)))
by_rule rule.no_args ends ends = λ names callee place. nothing
by_rule (rule.args {xs = xs}) (stands one rest) ends = λ names callee place. both _ _ (one names (wanted_at names.items callee place)) (arguments-pass xs rest names callee (place + 1))
by_rule (rule.address e) (marks (stands p ends)) ends = rw e (λ names wanted. rw sees.argument-Address (p names true _))
by_rule (rule.value e) (stands x ends) ends = rw e (λ names wanted. rw (sees.argument-Value, sees.expression-kind) (x.sees names _))
-- expressions
by_rule rule.no_expr ends ends = λ names. nothing
by_rule (rule.an_expr {e = e}) (stands x ends) ends = number-passes e x
by_rule rule.plain_expr (stands x ends) ends = x
by_rule (rule.choose {cond = cond} {one = one} {other = other} e) (stands x ends) (marks (stands y (marks (stands z ends)))) = rw e (record {
  sees = λ names need. rw sees.sees-Choose (both _ _ (no-view-passes need) (both _ _ (number-passes cond x names) (both _ _ (number-passes one y names) (number-passes other z names))));
  constant = λ at. rw sees.constant-Choose nothing;
})
by_rule rule.operand (stands x ends) ends = x
by_rule (rule.binary {left = left} {right = right} rank e) (stands x ends) (marks (stands y ends)) = rw e (record {
  sees = λ names need. rw sees.sees-Binary
      (both _ _ (no-view-passes need) (both _ _ (number-passes left x names) (both _ _ (if-passes _ _ [] (both _ _ (x.constant left.at) (y.constant right.at)) nothing) (number-passes right y names))));
  constant = λ at. rw sees.constant-Binary nothing;
})
by_rule rule.no_chain (stands x ends) ends = x
by_rule (rule.unary {part = part} {mark = mark} {mark_at = mark_at} e) ends (marks (stands x ends)) =
    rw e (record { sees = λ names need. rw sees.sees-Unary (both _ _ (no-view-passes need) (number-passes part x names)); constant = signed-passes mark mark_at part x })
by_rule (rule.cast {part = part} e) ends (marks (stands type (marks (stands x ends)))) =
    rw e (record { sees = λ names need. rw sees.sees-Cast (both _ _ (no-view-passes need) (number-passes part x names)); constant = λ at. rw sees.constant-Cast nothing })
by_rule (rule.brackets e) ends (marks (stands x (marks ends))) = rw e x
by_rule (rule.number e) ends all = rw e (record { sees = λ names need. rw sees.sees-Int (no-view-passes need); constant = λ at. rw sees.constant-Int (after _ [] refl nothing) })
by_rule (rule.read_overflow e) ends all = rw e (record { sees = λ names need. rw sees.sees-ReadOverflow (no-view-passes need); constant = λ at. rw sees.constant-ReadOverflow nothing })
by_rule (rule.call_value e) ends (stands c ends) = rw e (record { sees = λ names need. rw sees.sees-Call (c names need); constant = λ at. rw sees.constant-Call nothing })
by_rule (rule.read e) ends (stands p ends) = rw e (record { sees = λ names need. rw sees.sees-Read (p names need); constant = λ at. rw sees.constant-Read nothing })
-- of every other part nothing is claimed
by_rule other all more = tt
