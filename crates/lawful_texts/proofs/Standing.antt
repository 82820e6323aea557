-- The constants that are seen in a part of the tree that is spelled are those that stand in what it is tied to: by the
-- rules of the grammar.
use Rattle.std.proofs.Common.{◌≡◌, ℕ, suc, ◌+◌, List, [], ◌∷◌, ◌++◌, Bool, true, false, map, refl, sym, ap, ◌∙◌, subst, arith}
use Rattle.std.specs.Prelude.{ℤ, flat_map, nat_lt, Option, Some, None, is_some, is_none}
use Rattle.std.specs.List.{list_any}
use Rattle.std.proofs.lemmas.Bool.Decides.{nat_tests}
use Rattle.std.proofs.lemmas.List.Concat.{flat_map-append}
use Rattle.sat_base.specs.declared.width.Width.{Width}
use Rattle.sat_base.specs.declared.width.Width.TheVariants.{W32}
use Rattle.c_tree.specs.declared.call.Arg.{Arg}
use Rattle.c_tree.specs.declared.declaration.Decl.{Decl}
use Rattle.c_tree.specs.declared.declaration.Objects.{Objects}
use Rattle.c_tree.specs.declared.declaration.Row.{Row}
use Rattle.c_tree.specs.declared.expression.Expr.{Expr}
use Rattle.c_tree.specs.declared.function.Param.{Param}
use Rattle.c_tree.specs.declared.program.Item.{Item}
use Rattle.c_tree.specs.declared.simple.Simple.{Simple}
use Rattle.c_tree.specs.declared.statement.Stmt.{Stmt}
use Rattle.c_typed.specs.declared.call.Callee.{Callee}
use Rattle.c_typed.specs.declared.statement.TypedBlock.{TypedBlock}
use Rattle.c_typed.specs.declared.typed.Typed.{Typed}
use Rattle.constant_expressions.specs.Folding.{folded}
use Rattle.constant_expressions.proofs.Constants.{folded-Unary, folded-Cast}
use Rattle.declared_objects.specs.Initialisers.{is_variable, some_variable, is_bad_row}
use Rattle.declared_objects.specs.Lengths.{is_bad}
use Rattle.c_grammar.specs.declared.symbol.Symbol.TheVariants.{CloseBrace, Comma, Semicolon}
use Rattle.c_grammar.specs.Grammar.{Rule}
use Rattle.c_grammar.specs.Grammar as rule
use Rattle.c_grammar.specs.Nodes.{Node}
use Rattle.c_grammar.specs.Nodes as a
use Rattle.c_grammar.specs.Parts.{Token, Any, Part, word, each, followed}
use Rattle.c_seen.specs.declared.seen.Meaning.{Meaning}
use Rattle.c_seen.specs.declared.seen.Need.TheVariants as needs
use Rattle.c_seen.specs.declared.seen.Seen.TheVariants as seen
use Rattle.c_seen.specs.declared.statements.Spot.{Spot as SeenSpot}
use Rattle.c_seen.specs.Declarations as scope
use Rattle.c_seen.specs.Declarations.{number, number_if_any, numbers, row, dimension, bad_length_of, parameter, seen_in_declared, seen_in_objects, seen_in_lists, after_lists, seen_in_parameter, seen_in_parameters}
use Rattle.c_seen.specs.Expressions.{is_relation, no_view, constants_in, constant_of_kind, seen_in_place, seen_in_argument, arguments_from}
use Rattle.c_seen.specs.Meanings.{Names, wanted_at}
use Rattle.c_seen.specs.Statements.{in_loop, seen_in_simple, simples, seen_in_statement, seen_in_statements}
use Rattle.c_seen.proofs.Expressions_seen as sees
use Rattle.c_seen.proofs.Statements_seen as shows
use Rattle.tied_names.specs.declared.tie.Tie.{Tie}
use Rattle.tied_names.specs.Ties.{Here, tie_of, asked_of}
use Rattle.tied_expressions.specs.Expressions.{arguments_from as tied_arguments}
use Rattle.tied_expressions.proofs.Tied_equations as said
use Rattle.tied_statements.specs.declared.statements.Inside.{Inside}
use Rattle.tied_statements.specs.Declarations.{with_objects, after_declared, starts_of, starts_in_lists}
use Rattle.tied_statements.specs.Statements.{Done, tied_simples, tied_statement, tied_statements}
use Rattle.tied_statements.proofs.Statement_equations as ties
use Rattle.lawful_sources.specs.Things.{Read, Written, Given, taken_at}
use Rattle.lawful_sources.specs.Expressions.{Look, argued_from, of_argument, of_kind, of_place, of_call, argument_look}
use Rattle.lawful_sources.specs.Statements.{Spot, Walk, in_start, in_simple, in_simples, of_statement, of_block, all_of, in_statement, in_block}
use Rattle.lawful_sources.proofs.Passing.{call-is}
use Rattle.lawful_sources.proofs.Statements as stood
use Rattle.lawful_laws.proofs.Statements.{earlier, later, tail, head}
use Rattle.lawful_names.proofs.Clean.{is_clean, when-clean}
use Rattle.lawful_names.proofs.Looks as looks
use Rattle.lawful_texts.proofs.Alike.{Suits, Near, declared-near, line-near, lists-near}
use Rattle.lawful_texts.proofs.Beginnings.{not-some, name-flat, length-flat, declared-same}
use Rattle.lawful_texts.proofs.Claims.{Sound, Listed, ItemSame, Claim}
use Rattle.lawful_texts.proofs.Lengths.{neither}
use Rattle.lawful_texts.proofs.Numbers.{unary-some, converted-some, never-view, never-called, after-view, plain-same, kind-look, kind-by, argument-by, place-by, call-by, statement-by, expression-same, expression-flat, expression-constant, converted-same, signed-integer, signed-constant, binary-flat, viewed-read, value-same, maybe-same, returned-same, assigned-same}
use Rattle.lawful_texts.proofs.Same.{Same, values, nothing, more_things, more_seen, joined, none-seen, both-none, no-view, constants-same, then-thing, turned}
use Rattle.lawful_texts.proofs.Walk.{Parts, ends, marks, stands, split}

abbrev pub own : Token → ℕ
own t = 0

not-variable : (e : Expr) → is_variable e ≡ false → is_some (folded e) ≡ true
not-variable e p = some-by (folded e) p
  where
    some-by : (value : Option ℤ) → is_none value ≡ false → is_some value ≡ true
    some-by None p = cc
    some-by (Some value) p = refl

parameter-flat : (param : Param) → ((names : Names) → bad_length_of param ≡ None → values (dimension names param.dim) ≡ []) → (names : Names) (is_defined : Bool) → Sound (seen_in_parameter names is_defined param)
    → values (seen_in_parameter names is_defined param) ≡ []
parameter-flat param flat names is_defined p =
    both-none (dimension names param.dim) _ (flat names (when-clean (seen.Parameter (parameter param is_defined)) (head is_clean _ _ (later is_clean (dimension names param.dim) _ p))).length) (name-flat names param.name)

deeper : (depth : ℕ) → nat_lt 0 (suc depth) ≡ true
deeper depth = grind (arith, nat_tests)

module _ (source : Typed) where
  abbrev pub All : List Part → ℕ → Type 0
  All ps k = Parts (Claim source) own ps k

  -- ---- parts one after the other

  arguments-same : (xs : List Arg) {k : ℕ} → All (followed a.arg xs) k → (names : Names) (here : Here) (callee : Callee) (meaning : Option Meaning) (tie : Option Tie) (place : ℕ)
      → ((n : ℕ) → Suits (asked_of here.items tie n) (wanted_at names.items meaning n)) → Near names here → Sound (arguments_from xs names meaning place)
      → Same (argued_from source callee place (map (argument_look source) (tied_arguments xs here tie place).value)) (arguments_from xs names meaning place)
  arguments-same [] ends names here callee meaning tie place suits near p = nothing
  arguments-same (x ∷ xs) (marks (stands one rest)) names here callee meaning tie place suits near p =
      joined _ _ (seen_in_argument x names (wanted_at names.items meaning place)) _ (one.same names here _ _ (taken_at source callee place) (suits place) near (earlier is_clean _ _ p))
      (arguments-same xs rest names here callee meaning tie (place + 1) suits near (later is_clean (seen_in_argument x names (wanted_at names.items meaning place)) _ p))

  numbers-flat : (xs : List Expr) {k : ℕ} → All (followed a.expr xs) k → Listed xs
  numbers-flat [] ends some names = refl
  numbers-flat (x ∷ xs) (marks (stands one rest)) some names =
      both-none (number names x) _ (expression-flat source x one names (not-variable x (neither (is_variable x) _ some).0)) (numbers-flat xs rest (neither (is_variable x) _ some).1 names)

  rows-flat : (rows : List Row) {k : ℕ} → All (followed a.row rows) k → (columns : Option ℕ) → list_any (is_bad_row columns) rows ≡ false → (names : Names) → values (flat_map (row names) rows) ≡ []
  rows-flat [] ends columns bad names = refl
  rows-flat (r ∷ rows) (marks (stands one rest)) columns bad names =
      both-none (row names r) _ (one (neither (some_variable r.values) _ (neither (is_bad_row columns r) _ bad).0).0 names) (rows-flat rows rest columns (neither (is_bad_row columns r) _ bad).1 names)

  parameters-flat : (ps : List Param) {k : ℕ} → All (followed a.param ps) k → (names : Names) (is_defined : Bool) → Sound (seen_in_parameters names is_defined ps) → values (seen_in_parameters names is_defined ps) ≡ []
  parameters-flat [] ends names is_defined p = refl
  parameters-flat (x ∷ ps) (marks (stands one rest)) names is_defined p =
      both-none (seen_in_parameter names is_defined x) _ (one names is_defined (earlier is_clean _ _ p)) (parameters-flat ps rest (scope.after_parameter names x) is_defined (later is_clean (seen_in_parameter names is_defined x) _ p))

  simples-same : (xs : List Simple) {k : ℕ} → All (followed a.simple xs) k → (names : Names) (here : Here) → Near names here → Sound (simples names xs) → Same (in_simples source (tied_simples here xs).value) (simples names xs)
  simples-same [] ends names here near p = nothing
  simples-same (x ∷ xs) (marks (stands one rest)) names here near p =
      joined _ _ (seen_in_simple names x) _ (one names here near (earlier is_clean _ _ p)) (simples-same xs rest names here near (later is_clean (seen_in_simple names x) _ p))

  line-same : (is_static is_const : Bool) (width : Width) (ds : List Decl) {k : ℕ} → All (followed (a.declarator is_static is_const width) ds) k → (names : Names) (here : Here) (depth function : ℕ) → nat_lt 0 depth ≡ true → Near names here
      → Sound (seen_in_objects names depth ds) → Same (flat_map (in_start source) (starts_of here function ds).value) (seen_in_objects names depth ds)
  line-same is_static is_const width [] ends names here depth function deep near p = nothing
  line-same is_static is_const width (d ∷ ds) (marks (stands one rest)) names here depth function deep near p =
      joined _ _ (seen_in_declared names depth d) _ (one.inner names here depth _ deep near (earlier is_clean _ _ p))
      (line-same is_static is_const width ds rest (scope.after_declared names depth d) (after_declared here (Some function) d) depth function deep (declared-near names here depth (Some function) d near) (later is_clean (seen_in_declared names depth d) _ p))

  line-flat : (is_static is_const : Bool) (width : Width) (ds : List Decl) {k : ℕ} → All (followed (a.declarator is_static is_const width) ds) k → (names : Names) → Sound (seen_in_objects names 0 ds) → values (seen_in_objects names 0 ds) ≡ []
  line-flat is_static is_const width [] ends names p = refl
  line-flat is_static is_const width (d ∷ ds) (marks (stands one rest)) names p =
      both-none (seen_in_declared names 0 d) _ (one.outer names (earlier is_clean _ _ p)) (line-flat is_static is_const width ds rest (scope.after_declared names 0 d) (later is_clean (seen_in_declared names 0 d) _ p))

  lists-same : (lists : List Objects) {k : ℕ} → All (each a.objects lists) k → (names : Names) (here : Here) (depth function : ℕ) → nat_lt 0 depth ≡ true → Near names here → Sound (seen_in_lists names depth lists)
      → Same (flat_map (in_start source) (starts_in_lists here function lists).value) (seen_in_lists names depth lists)
  lists-same [] ends names here depth function deep near p = nothing
  lists-same (list ∷ lists) (stands one rest) names here depth function deep near p =
      turned _ _ _ _ (flat_map-append (in_start source) (starts_of here function list.decls).value _) refl
      (joined _ _ (seen_in_objects names depth list.decls) _ (one.inner names here depth function deep near (earlier is_clean _ _ p))
      (lists-same lists rest (scope.after_objects names depth list.decls) (starts_of here function list.decls).after depth function deep (line-near names here depth function list.decls near) (later is_clean (seen_in_objects names depth list.decls) _ p)))

  statements-same : (stmts : List Stmt) {k : ℕ} → All (each a.stmt stmts) k → (names : Names) (here : Here) (inside : Inside) (spot : SeenSpot) (at : Spot) → Near names here → Sound (seen_in_statements stmts names spot)
      → Same (all_of (map (in_statement source) (tied_statements stmts here inside).value) at) (seen_in_statements stmts names spot)
  statements-same [] ends names here inside spot at near p = nothing
  statements-same (s ∷ stmts) (stands one rest) names here inside spot at near p =
      joined _ _ (seen_in_statement s names spot) _ (one names here inside spot at near (earlier is_clean _ _ p))
      (statements-same stmts rest names (with_objects here (tied_statement s here inside).objects) inside spot at near (later is_clean (seen_in_statement s names spot) _ p))

  abbrev pub AllSame : List Item → Type 0
  AllSame [] = Unit {0}
  AllSame (x ∷ list) = ItemSame source x × AllSame list

  pub items-same : (list : List Item) {k : ℕ} → All (each a.item list) k → AllSame list
  items-same [] ends = tt
  items-same (x ∷ list) (stands one rest) = (one, items-same list rest)

  -- ---- the rules

  pub by_rule : {n : Node} {early late : List Part} {i j : ℕ} → Rule n early late → All early i → All late j → Claim source n (i + j)
  unfolding of_argument of_kind of_place of_call in_simple of_statement of_block
  -- items and objects
  by_rule (rule.extern_flag e) all ends = rw e tt
  by_rule (rule.extern_int e) all ends = rw e tt
  by_rule (rule.item_objects e) (stands o ends) ends = rw e o
  by_rule (rule.item_function e) (stands f ends) ends = rw e f
  by_rule (rule.objects {is_static = is_static} {is_const = is_const} {width = width} {d = d} {ds = ds} e) (stands specifiers (stands one rest)) ends =
      let line = split (Claim source) own (followed (a.declarator is_static is_const width) ds) (word Semicolon ∷ []) rest in rw e (record {
        inner = λ names here depth function deep near p. joined _ _ (seen_in_declared names depth d) _ (one.inner names here depth _ deep near (earlier is_clean _ _ p))
            (line-same is_static is_const width ds line.earlier (scope.after_declared names depth d) (after_declared here (Some function) d) depth function deep (declared-near names here depth (Some function) d near) (later is_clean (seen_in_declared names depth d) _ p));
        outer = λ names p. both-none (seen_in_declared names 0 d) _ (one.outer names (earlier is_clean _ _ p))
            (line-flat is_static is_const width ds line.earlier (scope.after_declared names 0 d) (later is_clean (seen_in_declared names 0 d) _ p));
      })
  by_rule (rule.view {d = d} e) (marks (marks (stands start ends))) ends = declared-same source d (rw e (λ bad names. (refl, refl))) (rw e start)
  by_rule (rule.object {d = d} e) (marks (stands brackets (stands start ends))) ends = declared-same source d (rw e (λ bad. brackets _ bad)) (rw e start)
  by_rule rule.scalar ends ends = λ missing bad names. (refl, refl)
  by_rule (rule.array {rows = rows}) (stands one ends) ends = λ missing bad names. (one (neither (is_bad rows) _ bad).0 names, refl)
  by_rule (rule.table {rows = rows} {length = length}) (stands one (marks (stands e (marks ends)))) ends = λ missing bad names.
      (one (neither (is_bad rows) _ bad).0 names, length-flat source (Some length) e (neither _ _ (neither (is_bad rows) _ bad).1).0 names)
  by_rule (rule.dimension {d = d}) (marks (stands e (marks ends))) ends = length-flat source d.length e
  -- initialisers
  by_rule rule.view_nothing ends ends = tt
  by_rule rule.view_one (marks (stands x ends)) ends = x
  by_rule rule.nothing ends ends = tt
  by_rule (rule.one {value = value}) (marks (stands x ends)) ends = value-same source value x
  by_rule rule.flat (marks (marks (stands vs (marks ends)))) ends = vs
  by_rule (rule.rows {row = r} {rows = rows}) (marks (marks (stands one rest))) ends =
      let more = split (Claim source) own (followed a.row rows) (word CloseBrace ∷ []) rest in rows-flat (r ∷ rows) (marks {t = Any Comma} (stands {i = 0} one more.earlier))
  by_rule (rule.rows_and_comma {row = r} {rows = rows}) (marks (marks (stands one rest))) ends =
      let more = split (Claim source) own (followed a.row rows) (word Comma ∷ word CloseBrace ∷ []) rest in rows-flat (r ∷ rows) (marks {t = Any Comma} (stands {i = 0} one more.earlier))
  by_rule rule.row (marks (stands vs (marks ends))) ends = vs
  by_rule (rule.values {value = value} {values = vs}) (stands one rest) ends = numbers-flat (value ∷ vs) (marks {t = Any Comma} (stands {i = 0} one rest))
  by_rule (rule.values_and_comma {value = value} {values = vs}) (stands one rest) ends =
      let more = split (Claim source) own (followed a.expr vs) (word Comma ∷ []) rest in numbers-flat (value ∷ vs) (marks {t = Any Comma} (stands {i = 0} one more.earlier))
  -- functions
  by_rule (rule.function e) (stands given (marks (marks (stands params (marks (stands b ends)))))) ends = rw e (record { parameters = params; body = b })
  by_rule rule.no_params ends ends = λ names is_defined p. refl
  by_rule rule.void_params all ends = λ names is_defined p. refl
  by_rule (rule.params {p = x} {ps = ps}) (stands one rest) ends = parameters-flat (x ∷ ps) (marks {t = Any Comma} (stands {i = 0} one rest))
  by_rule (rule.number_param {p = param} e) all ends = parameter-flat param (rw e (λ names bad. refl))
  by_rule (rule.view_param {p = param} e) all ends = parameter-flat param (rw e (λ names bad. refl))
  by_rule (rule.array_param {p = param} {dim = dim} e) (stands type (stands called (stands one ends))) ends = parameter-flat param (rw e (λ names bad. one (not-some (is_bad dim) _ bad) names))
  by_rule rule.declared all ends = tt
  by_rule rule.defined (stands b ends) ends = b
  -- statements
  by_rule (rule.block {b = b}) (marks rest) ends =
      let whole = split (Claim source) own (each a.objects b.objects ++ each a.stmt b.stmts) (word CloseBrace ∷ []) rest in
      let inner = split (Claim source) own (each a.objects b.objects) (each a.stmt b.stmts) whole.earlier in
      λ names here inside spot at deep near p.
      let q : Sound (seen_in_lists names spot.depth b.objects ++ seen_in_statements b.stmts (after_lists names spot.depth b.objects) spot) = subst Sound (shows.block-parts b names spot) p in
      turned _ _ _ _ (ap (λ (d : Done TypedBlock). in_block source d.value at) (ties.block-parts b here inside) ∙ ap (λ (w : Walk). w at) (stood.block-is source _)) (shows.block-parts b names spot)
      (joined _ _ (seen_in_lists names spot.depth b.objects) _ (lists-same b.objects inner.earlier names here spot.depth inside.function deep near (earlier is_clean _ _ q))
      (statements-same b.stmts inner.later (after_lists names spot.depth b.objects) (starts_in_lists here inside.function b.objects).after inside spot at (lists-near names here spot.depth inside.function b.objects near) (later is_clean (seen_in_lists names spot.depth b.objects) _ q)))
  by_rule (rule.empty {at = token} e) ends all = rw e (λ names here inside spot at near.
      statement-by source _ names here inside spot at _ _ _ (ties.tied-Empty token here inside) (shows.sees-Empty token names spot) (stood.statement-Empty source token) (λ q. more_things _ _ _ refl (more_seen _ _ _ refl nothing)))
  by_rule (rule.block_stmt {block = block} e) ends (stands b ends) = rw e (λ names here inside spot at near.
      statement-by source _ names here inside spot at _ _ _ (ties.tied-Block block here inside) (shows.sees-Block block names spot) (stood.statement-Block source _)
      (λ q. more_things _ _ _ refl (more_seen _ _ _ refl (b names here inside _ at (deeper spot.depth) near (tail is_clean _ _ q)))))
  by_rule (rule.simple_stmt {simple = simple} e) ends (stands x (marks ends)) = rw e (λ names here inside spot at near.
      statement-by source _ names here inside spot at _ _ _ (ties.tied-Simple simple here inside) (shows.sees-Simple simple names spot) (stood.statement-Simple source _)
      (λ q. more_things _ _ _ refl (more_seen _ _ _ refl (x names here near (tail is_clean _ _ q)))))
  by_rule (rule.if_ {at = token} {cond = cond} {branch = branch} e) ends (marks (marks (stands c (marks (stands b ends))))) = rw e (λ names here inside spot at near.
      statement-by source _ names here inside spot at _ _ _ (ties.tied-Then token cond branch here inside) (shows.sees-If token cond branch None names spot) (stood.statement-Then source token _ _)
      (λ q. more_things _ _ _ refl (more_seen _ _ _ refl (joined _ _ (number names cond) _ (expression-same source cond c names here needs.Number None near (earlier is_clean _ _ (tail is_clean _ _ q)))
      (joined _ [] (seen_in_statement branch names spot) [] (b names here inside spot at near (earlier is_clean _ _ (later is_clean (number names cond) _ (tail is_clean _ _ q)))) nothing)))))
  by_rule (rule.if_else {at = token} {cond = cond} {branch = branch} {other = other} e closed) ends (marks (marks (stands c (marks (stands b (marks (stands o ends))))))) = rw e (λ names here inside spot at near.
      statement-by source _ names here inside spot at _ _ _ (ties.tied-Else token cond branch other here inside) (shows.sees-If token cond branch (Some other) names spot) (stood.statement-Else source token _ _ _)
      (λ q. more_things _ _ _ refl (more_seen _ _ _ refl (joined _ _ (number names cond) _ (expression-same source cond c names here needs.Number None near (earlier is_clean _ _ (tail is_clean _ _ q)))
      (joined _ _ (seen_in_statement branch names spot) _ (b names here inside spot at near (earlier is_clean _ _ (later is_clean (number names cond) _ (tail is_clean _ _ q))))
      (o names (with_objects here (tied_statement branch here inside).objects) inside spot at near (later is_clean (seen_in_statement branch names spot) _ (later is_clean (number names cond) _ (tail is_clean _ _ q)))))))))
  by_rule (rule.while_ {at = token} {cond = cond} {body = body} e) ends (marks (marks (stands c (marks (stands b ends))))) = rw e (λ names here inside spot at near.
      statement-by source _ names here inside spot at _ _ _ (ties.tied-While token cond body here inside) (shows.sees-While token cond body names spot) (stood.statement-While source token _ _)
      (λ q. more_things _ _ _ refl (more_seen _ _ _ refl (joined _ _ (number names cond) _ (expression-same source cond c names here needs.Number None near (earlier is_clean _ _ (tail is_clean _ _ q)))
      (b names here inside _ _ near (later is_clean (number names cond) _ (tail is_clean _ _ q)))))))
  by_rule (rule.do_ {at = token} {body = body} {cond = cond} e) ends (marks (stands b (marks (marks (stands c (marks (marks ends))))))) = rw e (λ names here inside spot at near.
      statement-by source _ names here inside spot at _ _ _ (ties.tied-Do token body cond here inside) (shows.sees-Do token body cond names spot) (stood.statement-Do source token _ _)
      (λ q. more_things _ _ _ refl (more_seen _ _ _ refl (joined _ _ (seen_in_statement body names (in_loop spot)) _ (b names here inside _ _ near (earlier is_clean _ _ (tail is_clean _ _ q)))
      (expression-same source cond c names (with_objects here (tied_statement body here inside).objects) needs.Number None near (later is_clean (seen_in_statement body names (in_loop spot)) _ (tail is_clean _ _ q)))))))
  by_rule (rule.for_ {at = token} {first = first} {last = last} {cond = cond} {body = body} e) ends (marks (marks (stands f (marks (stands c (marks (stands l (marks (stands b ends))))))))) = rw e (λ names here inside spot at near.
      statement-by source _ names here inside spot at _ _ _ (ties.tied-For token first cond last body here inside) (shows.sees-For token first cond last body names spot) (stood.statement-For source token _ _ _ _)
      (λ q. let r = tail is_clean _ _ q in
      more_things _ _ _ refl (more_seen _ _ _ refl (joined _ _ (simples names first) _ (f names here near (earlier is_clean _ _ r)) (joined _ _ (number_if_any names cond) _ (maybe-same source cond c names here near (earlier is_clean _ _ (later is_clean (simples names first) _ r)))
      (joined _ _ (simples names last) _ (l names here near (earlier is_clean _ _ (later is_clean (number_if_any names cond) _ (later is_clean (simples names first) _ r))))
      (b names here inside _ _ near (later is_clean (simples names last) _ (later is_clean (number_if_any names cond) _ (later is_clean (simples names first) _ r))))))))))
  by_rule (rule.break {at = token} e) ends all = rw e (λ names here inside spot at near.
      statement-by source _ names here inside spot at _ _ _ (ties.tied-Break token here inside) (shows.sees-Break token names spot) (stood.statement-Break source token) (λ q. more_things _ _ _ refl (more_things _ _ _ refl (more_seen _ _ _ refl (more_seen _ _ _ refl nothing)))))
  by_rule (rule.continue {at = token} e) ends all = rw e (λ names here inside spot at near.
      statement-by source _ names here inside spot at _ _ _ (ties.tied-Continue token here inside) (shows.sees-Continue token names spot) (stood.statement-Continue source token) (λ q. more_things _ _ _ refl (more_things _ _ _ refl (more_seen _ _ _ refl (more_seen _ _ _ refl nothing)))))
  by_rule (rule.return {at = token} {value = value} e) ends (marks (stands v (marks ends))) = rw e (λ names here inside spot at near.
      statement-by source _ names here inside spot at _ _ _ (ties.tied-Return token value here inside) (shows.sees-Return token value names spot) (stood.statement-Return source token _)
      (λ q. more_things _ _ _ refl (more_things _ _ _ refl (more_seen _ _ _ refl (more_seen _ _ _ refl (returned-same source inside.gives at value v names here near (tail is_clean _ _ (tail is_clean _ _ q))))))))
  by_rule rule.no_simples ends ends = λ names here near p. nothing
  by_rule (rule.simples {x = x} {xs = xs}) (stands one rest) ends = simples-same (x ∷ xs) (marks {t = Any Comma} (stands {i = 0} one rest))
  by_rule (rule.assign {p = place} {mark = mark} {value = value} e) (stands p (marks (stands v ends))) ends = rw e (λ names here near q.
      joined _ _ (seen_in_place place names false needs.Target) _ (p names here needs.Target Written near (earlier is_clean _ _ q))
      (more_things _ _ _ refl (assigned-same source mark _ _ value v names here near (later is_clean (seen_in_place place names false needs.Target) _ q))))
  by_rule (rule.step_after e) (stands p (marks ends)) ends = rw e (λ names here near q. then-thing _ _ _ refl (p names here false needs.Target Written near q))
  by_rule (rule.step_before e) (marks (stands p ends)) ends = rw e (λ names here near q. then-thing _ _ _ refl (p names here needs.Target Written near q))
  by_rule (rule.set_overflow {value = value} e) (marks (marks (stands v ends))) ends = rw e (λ names here near q.
      converted-same source W32 (Some W32) _ _ (expression-same source value v names here needs.Number None near q))
  by_rule (rule.simple_call e) (stands c ends) ends = rw e (λ names here near q. c names here needs.Nothing false near q)
  -- places and calls
  by_rule rule.place_named (stands p ends) ends = λ names here need aim near q. p names here false need aim near q
  by_rule (rule.deref {star_at = star_at} {name = name} e) ends all = rw e (λ names here need aim near.
      place-by source _ names here false need aim _ _ _ (said.place-Deref star_at name here false) (sees.place-Deref star_at name names false need) (looks.place-Deref source _ _ _ _)
      (λ q. more_things _ _ _ refl (more_things _ _ _ refl (more_seen _ _ _ refl nothing))))
  by_rule (rule.plain {name = name} e) ends all = rw e (λ names here ampersand need aim near.
      place-by source _ names here ampersand need aim _ _ _ (said.place-Plain name here ampersand) (sees.place-Plain name names ampersand need) (looks.place-Plain source _ _) (λ q. more_things _ _ _ refl (more_seen _ _ _ refl nothing)))
  by_rule (rule.index {name = name} {mark_at = mark_at} {index = index} e) ends (marks (marks (stands x (marks ends)))) = rw e (λ names here ampersand need aim near.
      place-by source _ names here ampersand need aim _ _ _ (said.place-Index name mark_at index here ampersand) (sees.place-Index name mark_at index names ampersand need) (looks.place-Index source _ _ _ _ _)
      (λ q. more_things _ _ _ refl (more_seen _ _ _ refl (more_things _ _ _ refl (expression-same source index x names here needs.Number None near (tail is_clean _ _ q))))))
  by_rule (rule.index2 {name = name} {first_at = first_at} {second_at = second_at} {first = first} {second = second} e) ends (marks (marks (stands x (marks (marks (stands y (marks ends))))))) = rw e (λ names here ampersand need aim near.
      place-by source _ names here ampersand need aim _ _ _ (said.place-Index2 name first_at first second_at second here ampersand) (sees.place-Index2 name first_at first second_at second names ampersand need) (looks.place-Index2 source _ _ _ _ _ _ _ _)
      (λ q. more_things _ _ _ refl (more_seen _ _ _ refl (more_things _ _ _ refl (joined _ _ (number names first) _ (expression-same source first x names here needs.Number None near (earlier is_clean _ _ (tail is_clean _ _ q)))
      (more_things _ _ _ refl (expression-same source second y names here needs.Number None near (later is_clean (number names first) _ (tail is_clean _ _ q)))))))))
  by_rule (rule.call {c = call} {name = name} e) (marks (marks (stands xs (marks ends)))) ends = rw e (λ names here need is_needed near.
      call-by source _ names here need is_needed _ _ _ (said.call-parts _ here) (sees.call-arguments _ names need) (call-is source _)
      (λ q. more_things _ _ _ refl (more_things _ _ _ refl (more_seen _ _ _ refl (xs names here _ _ (tie_of here name.name) 0 (near.suits name.name) near (tail is_clean _ _ q))))))
  by_rule rule.no_args ends ends = λ names here callee meaning tie place suits near p. nothing
  by_rule (rule.args {x = x} {xs = xs}) (stands one rest) ends = arguments-same (x ∷ xs) (marks {t = Any Comma} (stands {i = 0} one rest))
  by_rule (rule.address {at = at} {p = place} e) (marks (stands p ends)) ends = rw e (record {
    same = λ names here asked wanted taken suits near. argument-by source _ names here asked wanted taken _ _ _ (said.argument-Address at place here asked) (sees.argument-Address at place names wanted) (looks.argument-Address source at _)
        (λ q. more_things _ _ _ refl (p names here true _ (Given taken) near q));
    flat = λ names wanted some. cc;
  })
  by_rule (rule.value {e = value} e) (stands x ends) ends = rw e (value-same source value x)
  -- expressions
  by_rule rule.no_expr ends ends = tt
  by_rule rule.an_expr (stands x ends) ends = x
  by_rule rule.plain_expr (stands x ends) ends = x
  by_rule (rule.choose {cond = cond} {one = one} {other = other} e) (stands x ends) (marks (stands y (marks (stands z ends)))) = rw e (record {
    number = λ names here need due near. kind-by source _ names here need due _ _ _ (said.tied-Choose cond one other here) (sees.sees-Choose cond one other names need) (looks.kind-Choose source _ _ _)
        (λ q. plain-same need due _ _ (joined _ _ (number names cond) _ (expression-same source cond x names here needs.Number None near (earlier is_clean _ _ (after-view need _ q)))
        (joined _ _ (number names one) _ (expression-same source one y names here needs.Number None near (earlier is_clean _ _ (later is_clean (number names cond) _ (after-view need _ q))))
        (expression-same source other z names here needs.Number None near (later is_clean (number names one) _ (later is_clean (number names cond) _ (after-view need _ q)))))));
    view = λ names here view at first taken near p. absurd (never-view first _ (subst Sound (sees.sees-Choose cond one other names _) p));
    integer = λ here. ap (λ (l : Look). l.integer) (kind-look source _ here _ _ (said.tied-Choose cond one other here) (looks.kind-Choose source _ _ _)) ∙ sym (sees.integer-Choose cond one other);
    constant = λ here at. ap (λ (l : Look). l.constant) (kind-look source _ here _ _ (said.tied-Choose cond one other here) (looks.kind-Choose source _ _ _)) ∙ sym (ap values (sees.constant-Choose cond one other at));
    flat = λ names need some. cc;
  })
  by_rule rule.operand (stands x ends) ends = x
  by_rule (rule.binary {left = left} {right = right} {mark = mark} {mark_at = mark_at} rank e) (stands x ends) (marks (stands y ends)) = rw e (record {
    number = λ names here need due near. kind-by source _ names here need due _ _ _ (said.tied-Binary mark mark_at left right here) (sees.sees-Binary mark mark_at left right names need) (looks.kind-Binary source mark mark_at _ _ _)
        (λ q. plain-same need due _ _ (joined _ _ (number names left) _ (expression-same source left x names here needs.Number None near (earlier is_clean _ _ (after-view need _ q)))
        (more_things _ _ _ refl (joined _ _ (constants_in mark (constant_of_kind left.kind left.at) (constant_of_kind right.kind right.at)) _
        (constants-same (is_relation mark) _ _ (constant_of_kind left.kind left.at) (constant_of_kind right.kind right.at) (expression-constant source left x here) (expression-constant source right y here))
        (expression-same source right y names here needs.Number None near
        (later is_clean (constants_in mark (constant_of_kind left.kind left.at) (constant_of_kind right.kind right.at)) _ (later is_clean (number names left) _ (after-view need _ q))))))));
    view = λ names here view at first taken near p. absurd (never-view first _ (subst Sound (sees.sees-Binary mark mark_at left right names _) p));
    integer = λ here. ap (λ (l : Look). l.integer) (kind-look source _ here _ _ (said.tied-Binary mark mark_at left right here) (looks.kind-Binary source mark mark_at _ _ _)) ∙ sym (sees.integer-Binary mark mark_at left right);
    constant = λ here at. ap (λ (l : Look). l.constant) (kind-look source _ here _ _ (said.tied-Binary mark mark_at left right here) (looks.kind-Binary source mark mark_at _ _ _)) ∙ sym (ap values (sees.constant-Binary mark mark_at left right at));
    flat = binary-flat source mark mark_at left right x y;
  })
  by_rule rule.no_chain (stands x ends) ends = x
  by_rule (rule.unary {part = part} {mark = mark} {mark_at = mark_at} e) ends (marks (stands x ends)) = rw e (record {
    number = λ names here need due near. kind-by source _ names here need due _ _ _ (said.tied-Unary mark mark_at part here) (sees.sees-Unary mark mark_at part names need) (looks.kind-Unary source mark mark_at _ _)
        (λ q. plain-same need due _ _ (more_things _ _ _ refl (expression-same source part x names here needs.Number None near (after-view need _ q))));
    view = λ names here view at first taken near p. absurd (never-view first _ (subst Sound (sees.sees-Unary mark mark_at part names _) p));
    integer = signed-integer source mark mark_at part x;
    constant = signed-constant source mark mark_at part x;
    flat = λ names need some. rw sees.sees-Unary (both-none (no_view need) (number names part) (no-view need) (expression-flat source part x names (unary-some mark (folded part) (ap is_some (sym (folded-Unary mark mark_at part)) ∙ some))));
  })
  by_rule (rule.cast {part = part} {width = width} e) ends (marks (stands type (marks (stands x ends)))) = rw e (record {
    number = λ names here need due near. kind-by source _ names here need due _ _ _ (said.tied-Cast width part here) (sees.sees-Cast width part names need) (looks.kind-Cast source width _)
        (λ q. plain-same need due _ _ (expression-same source part x names here needs.Number None near (after-view need _ q)));
    view = λ names here view at first taken near p. absurd (never-view first _ (subst Sound (sees.sees-Cast width part names _) p));
    integer = λ here. ap (λ (l : Look). l.integer) (kind-look source _ here _ _ (said.tied-Cast width part here) (looks.kind-Cast source width _)) ∙ sym (sees.integer-Cast width part);
    constant = λ here at. ap (λ (l : Look). l.constant) (kind-look source _ here _ _ (said.tied-Cast width part here) (looks.kind-Cast source width _)) ∙ sym (ap values (sees.constant-Cast width part at));
    flat = λ names need some. rw sees.sees-Cast (both-none (no_view need) (number names part) (no-view need) (expression-flat source part x names (converted-some width (folded part) (ap is_some (sym (folded-Cast width part)) ∙ some))));
  })
  by_rule (rule.brackets e) ends (marks (stands x (marks ends))) = rw e x
  by_rule (rule.number {value = value} e) ends all = rw e (record {
    number = λ names here need due near. kind-by source _ names here need due _ _ _ (said.tied-Int value here) (sees.sees-Int value names need) (looks.kind-Int source value) (λ q. more_things _ [] _ refl (none-seen _ (no-view need)));
    view = λ names here view at first taken near p. absurd (never-view first [] (subst Sound (sees.sees-Int value names _) p));
    integer = λ here. ap (λ (l : Look). l.integer) (kind-look source _ here _ _ (said.tied-Int value here) (looks.kind-Int source value)) ∙ sym (sees.integer-Int value);
    constant = λ here at. ap (λ (l : Look). l.constant) (kind-look source _ here _ _ (said.tied-Int value here) (looks.kind-Int source value)) ∙ sym (ap values (sees.constant-Int value at));
    flat = λ names need some. rw sees.sees-Int (no-view need);
  })
  by_rule (rule.read_overflow {at = token} e) ends all = rw e (record {
    number = λ names here need due near. kind-by source _ names here need due _ _ _ (said.tied-ReadOverflow token here) (sees.sees-ReadOverflow token names need) (looks.kind-ReadOverflow source token) (λ q. more_things _ [] _ refl (none-seen _ (no-view need)));
    view = λ names here view at first taken near p. absurd (never-view first [] (subst Sound (sees.sees-ReadOverflow token names _) p));
    integer = λ here. ap (λ (l : Look). l.integer) (kind-look source _ here _ _ (said.tied-ReadOverflow token here) (looks.kind-ReadOverflow source token)) ∙ sym (sees.integer-ReadOverflow token);
    constant = λ here at. ap (λ (l : Look). l.constant) (kind-look source _ here _ _ (said.tied-ReadOverflow token here) (looks.kind-ReadOverflow source token)) ∙ sym (ap values (sees.constant-ReadOverflow token at));
    flat = λ names need some. cc;
  })
  by_rule (rule.call_value {c = call} e) ends (stands c ends) = rw e (record {
    number = λ names here need due near. kind-by source _ names here need due _ _ _ (said.tied-Call call here) (sees.sees-Call call names need) (looks.kind-Call source _) (λ q. more_things _ _ _ refl (c names here need true near q));
    view = λ names here view at first taken near p. absurd (never-called call names view first (subst Sound (sees.sees-Call call names _) p));
    integer = λ here. ap (λ (l : Look). l.integer) (kind-look source _ here _ _ (said.tied-Call call here) (looks.kind-Call source _)) ∙ sym (sees.integer-Call call);
    constant = λ here at. ap (λ (l : Look). l.constant) (kind-look source _ here _ _ (said.tied-Call call here) (looks.kind-Call source _)) ∙ sym (ap values (sees.constant-Call call at));
    flat = λ names need some. cc;
  })
  by_rule (rule.read {p = place} e) ends (stands p ends) = rw e (record {
    number = λ names here need due near. kind-by source _ names here need due _ _ _ (said.tied-Read place here) (sees.sees-Read place names need) (looks.kind-Read source _) (λ q. more_things _ _ _ refl (p names here need Read near q));
    view = λ names here view at first taken near q. viewed-read source place names here (needs.View view first) at taken (p names here (needs.View view first) (Given taken) near) q;
    integer = λ here. ap (λ (l : Look). l.integer) (kind-look source _ here _ _ (said.tied-Read place here) (looks.kind-Read source _)) ∙ sym (sees.integer-Read place);
    constant = λ here at. ap (λ (l : Look). l.constant) (kind-look source _ here _ _ (said.tied-Read place here) (looks.kind-Read source _)) ∙ sym (ap values (sees.constant-Read place at));
    flat = λ names need some. cc;
  })
  -- of every other part nothing is claimed
  by_rule other all more = tt
