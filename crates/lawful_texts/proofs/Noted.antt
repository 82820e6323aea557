-- What is noted in a part of the tree that is spelled: of the sites at one token no more than that token stands there.
use Rattle.std.proofs.Common.{◌≡◌, ℕ, ◌+◌, ◌≤◌, List, [], ◌∷◌, ◌++◌, Bool, true, false, refl, arith}
use Rattle.std.specs.Prelude.{◌==◌, if◌then◌else◌, Option, Some, None}
use Rattle.sat_base.specs.declared.name.At.{At}
use Rattle.c_tree.specs.declared.call.Arg.{Arg}
use Rattle.c_tree.specs.declared.call.Arg.TheVariants as arg
use Rattle.c_tree.specs.declared.declaration.Decl.{Decl}
use Rattle.c_tree.specs.declared.declaration.Init.{Init}
use Rattle.c_tree.specs.declared.declaration.Init.TheVariants as init
use Rattle.c_tree.specs.declared.declaration.Objects.{Objects}
use Rattle.c_tree.specs.declared.expression.Expr.{Expr}
use Rattle.c_tree.specs.declared.expression.ExprKind.{ExprKind}
use Rattle.c_tree.specs.declared.function.Function.{Function}
use Rattle.c_tree.specs.declared.program.Item.{Item}
use Rattle.c_tree.specs.declared.simple.Simple.{Simple}
use Rattle.c_tree.specs.declared.statement.Block.{Block}
use Rattle.c_tree.specs.declared.statement.Stmt.{Stmt}
use Rattle.sat_base.specs.declared.width.Width.{Width}
use Rattle.c_grammar.specs.declared.symbol.Symbol.TheVariants.{CloseBrace, Semicolon}
use Rattle.c_grammar.specs.Grammar.{Rule}
use Rattle.c_grammar.specs.Grammar as rule
use Rattle.c_grammar.specs.Nodes.{Node}
use Rattle.c_grammar.specs.Nodes as a
use Rattle.c_grammar.specs.Parts.{Token, Any, Kept, Called, Valued, Part, word, each, followed}
use Rattle.operator_meaning.specs.declared.site.SiteKind.{SiteKind}
use Rattle.tied_names.specs.declared.note.Note.{Note}
use Rattle.tied_names.specs.declared.note.Note.TheVariants as note
use Rattle.tied_names.specs.declared.tie.Asked.{Asked}
use Rattle.tied_names.specs.declared.tie.Asked.TheVariants as asks
use Rattle.tied_names.specs.declared.tie.Tie.{Tie}
use Rattle.tied_names.specs.declared.tie.TiedObject.{TiedObject}
use Rattle.tied_names.specs.Ties.{Here, tie_of, asked_of}
use Rattle.tied_expressions.specs.Expressions.{tied_expression, tied_kind, viewed_kind, tied_place, tied_call, tied_argument, arguments_from}
use Rattle.tied_expressions.specs.Sites.{noted_if}
use Rattle.tied_expressions.proofs.Tied_equations as said
use Rattle.tied_statements.specs.declared.statements.Inside.{Inside}
use Rattle.tied_statements.specs.Declarations.{with_objects, asked_by, start_value, after_declared, starts_of, starts_in_lists}
use Rattle.tied_statements.specs.Statements.{tied_simple, tied_simples, tied_if_any, tied_statement, tied_block, tied_statements}
use Rattle.tied_statements.proofs.Statement_equations as ties
use Rattle.c_types.specs.Sources.{Source, parameters_of, inside_of, number_of, after_declaration, after_body, after_function, after_item, after_items}
use Rattle.lawful_texts.proofs.Walk.{Parts, ends, marks, stands, split}

-- 1 where a token is this one
unfoldable pub one_at : ℕ → ℕ → ℕ
one_at tok other = if other == tok then 1 else 0

module _ (tok : ℕ) where
  -- the sites at the token
  abbrev pub count : Note → ℕ
  count (note.Site site) = one_at tok site.tok
  count (note.Exposed number) = 0

  abbrev pub noted : List Note → ℕ
  noted [] = 0
  noted (n ∷ notes) = count n + noted notes

  noted-append : (xs ys : List Note) → noted (xs ++ ys) ≡ noted xs + noted ys
  noted-append [] ys = omega arith
  noted-append (x ∷ xs) ys = omega (arith, noted-append xs ys)

  noted-if : (kind : Option SiteKind) (at : At) → noted (noted_if kind at) ≤ one_at tok at.tok
  noted-if None at = omega arith
  noted-if (Some kind) at = omega arith

  exposed-by : (exposes : Bool) (object : TiedObject) → noted (if exposes then note.Exposed object.number ∷ [] else []) ≡ 0
  exposed-by true object = omega arith
  exposed-by false object = omega arith

  noted-expression : (e : Expr) (here : Here) → noted (tied_expression e here).notes ≡ noted (tied_kind e.kind here).notes
  noted-expression e here = rw said.tied-expression refl

  -- ---- what is claimed, whatever names are tied to

  pub record KindNoted (x : ExprKind) (k : ℕ) : Type 0 where
    pub number : (here : Here) → noted (tied_kind x here).notes ≤ k
    pub view : (at : At) (here : Here) → noted (viewed_kind x at here).notes ≤ k

  abbrev StartNoted : Init → ℕ → Type 0
  StartNoted init.Nothing k = Unit {0}
  StartNoted (init.One x) k = (here : Here) (asked : Asked) → noted (tied_argument x here asked).notes ≤ k
  StartNoted (init.Flat values) k = Unit {0}
  StartNoted (init.Rows rows) k = Unit {0}

  abbrev BodyNoted : Option Block → ℕ → Type 0
  BodyNoted None k = Unit {0}
  BodyNoted (Some b) k = (here : Here) (inside : Inside) → noted (tied_block b here inside).notes ≤ k

  abbrev pub Claim : Node → ℕ → Type 0
  Claim (a.item x) k = (s : Source) (item : ℕ) → noted (after_item s item x).notes ≤ noted s.notes + k
  Claim (a.objects o) k = (here : Here) (function : ℕ) → noted (starts_of here function o.decls).notes ≤ k
  Claim (a.declarator is_static is_const width d) k = (here : Here) → noted (start_value here d).notes ≤ k
  Claim (a.start i) k = StartNoted i k
  Claim (a.view_start i) k = StartNoted i k
  Claim (a.function f) k = (s : Source) (item : ℕ) → noted (after_function s item f).notes ≤ noted s.notes + k
  Claim (a.body b) k = BodyNoted b k
  Claim (a.block b) k = BodyNoted (Some b) k
  Claim (a.stmt s) k = (here : Here) (inside : Inside) → noted (tied_statement s here inside).notes ≤ k
  Claim (a.simples xs) k = (here : Here) → noted (tied_simples here xs).notes ≤ k
  Claim (a.simple x) k = (here : Here) → noted (tied_simple here x).notes ≤ k
  Claim (a.place p) k = (here : Here) (ampersand : Bool) → noted (tied_place p here ampersand).notes ≤ k
  Claim (a.named p) k = (here : Here) (ampersand : Bool) → noted (tied_place p here ampersand).notes ≤ k
  Claim (a.call c) k = (here : Here) → noted (tied_call c here).notes ≤ k
  Claim (a.args xs) k = (here : Here) (tie : Option Tie) (n : ℕ) → noted (arguments_from xs here tie n).notes ≤ k
  Claim (a.arg x) k = (here : Here) (asked : Asked) → noted (tied_argument x here asked).notes ≤ k
  Claim (a.maybe_expr e) k = (here : Here) → noted (tied_if_any here e).notes ≤ k
  Claim (a.expr e) k = KindNoted e.kind k
  Claim (a.chain n e) k = KindNoted e.kind k
  Claim (a.unary e) k = KindNoted e.kind k
  Claim n k = Unit {0}

  abbrev pub own : Token → ℕ
  own (Any s) = 0
  own (Kept s at) = one_at tok at.tok
  own (Called name) = one_at tok name.at.tok
  own (Valued at value) = one_at tok at.tok

  abbrev pub All : List Part → ℕ → Type 0
  All ps k = Parts Claim own ps k

  -- ---- parts one after the other

  arguments-noted : (xs : List Arg) {k : ℕ} → All (followed a.arg xs) k → (here : Here) (tie : Option Tie) (n : ℕ) → noted (arguments_from xs here tie n).notes ≤ k
  arguments-noted [] ends here tie n = omega arith
  arguments-noted (x ∷ xs) (marks (stands one rest)) here tie n = omega (arith, noted-append, one here (asked_of here.items tie n), arguments-noted xs rest here tie (n + 1))

  simples-noted : (xs : List Simple) {k : ℕ} → All (followed a.simple xs) k → (here : Here) → noted (tied_simples here xs).notes ≤ k
  simples-noted [] ends here = omega arith
  simples-noted (x ∷ xs) (marks (stands one rest)) here = omega (arith, noted-append, one here, simples-noted xs rest here)

  line-noted : (is_static is_const : Bool) (width : Width) (ds : List Decl) {k : ℕ} → All (followed (a.declarator is_static is_const width) ds) k → (here : Here) (function : ℕ) → noted (starts_of here function ds).notes ≤ k
  line-noted is_static is_const width [] ends here function = omega arith
  line-noted is_static is_const width (d ∷ ds) (marks (stands one rest)) here function =
      omega (arith, noted-append, one here, line-noted is_static is_const width ds rest (after_declared here (Some function) d) function)

  lists-noted : (lists : List Objects) {k : ℕ} → All (each a.objects lists) k → (here : Here) (function : ℕ) → noted (starts_in_lists here function lists).notes ≤ k
  lists-noted [] ends here function = omega arith
  lists-noted (list ∷ lists) (stands one rest) here function = omega (arith, noted-append, one here function, lists-noted lists rest (starts_of here function list.decls).after function)

  statements-noted : (stmts : List Stmt) {k : ℕ} → All (each a.stmt stmts) k → (here : Here) (inside : Inside) → noted (tied_statements stmts here inside).notes ≤ k
  statements-noted [] ends here inside = omega arith
  statements-noted (s ∷ stmts) (stands one rest) here inside =
      omega (arith, noted-append, one here inside, statements-noted stmts rest (with_objects here (tied_statement s here inside).objects) inside)

  pub items-noted : (list : List Item) {k : ℕ} → All (each a.item list) k → (s : Source) (item : ℕ) → noted (after_items s item list).notes ≤ noted s.notes + k
  items-noted [] ends s item = omega arith
  items-noted (x ∷ list) (stands one rest) s item = omega (arith, one s item, items-noted list rest (after_item s item x) (item + 1))

  -- ---- what rules need

  value-noted : (e : Expr) {k : ℕ} → KindNoted e.kind k → (here : Here) (asked : Asked) → noted (tied_argument (arg.Value e) here asked).notes ≤ k
  value-noted e one here (asks.Number width) = rw said.argument-Number (omega (arith, noted-expression e here, one.number here))
  value-noted e one here asks.View = rw said.argument-View (one.view e.at here)

  start-by : (decl : Decl) (static : Bool) (start : Init) (k : ℕ) → StartNoted start k → (here : Here) → noted (start_value here (record decl { is_static = static; init = start })).notes ≤ k
  start-by decl true start k one here = omega arith
  start-by decl false init.Nothing k one here = omega arith
  start-by decl false (init.One x) k one here = one here (asked_by decl)
  start-by decl false (init.Flat values) k one here = omega arith
  start-by decl false (init.Rows rows) k one here = omega arith

  start-noted : (decl : Decl) (k : ℕ) → StartNoted decl.init k → (here : Here) → noted (start_value here decl).notes ≤ k
  start-noted decl k one here = start-by decl decl.is_static decl.init k one here

  body-noted : (body : Option Block) (k : ℕ) → BodyNoted body k → (s : Source) (number : ℕ) (function : Function) → noted (after_body s number function body).notes ≤ noted s.notes + k
  body-noted None k one s number function = omega arith
  body-noted (Some body) k one s number function = omega (arith, noted-append, one (parameters_of s.here number function.params).after (inside_of number function))

  function-noted : (f : Function) (k : ℕ) → BodyNoted f.body k → (s : Source) (item : ℕ) → noted (after_function s item f).notes ≤ noted s.notes + k
  function-noted f k one s item = body-noted f.body k one (after_declaration s item f) (number_of s f) f

  no-view-noted : {x : ExprKind} {k : ℕ} → ((here : Here) → noted (tied_kind x here).notes ≤ k) → ((at : At) (here : Here) → (viewed_kind x at here).notes ≡ []) → KindNoted x k
  no-view-noted number view = record { number = number; view = λ at here. rw view (omega arith) }

  -- ---- the rules

  pub by_rule : {n : Node} {early late : List Part} {i j : ℕ} → Rule n early late → All early i → All late j → Claim n (i + j)
  -- items and objects
  by_rule (rule.extern_flag e) all ends = rw e (λ s item. omega arith)
  by_rule (rule.extern_int e) all ends = rw e (λ s item. omega arith)
  by_rule (rule.item_objects e) all ends = rw e (λ s item. omega arith)
  by_rule (rule.item_function e) (stands f ends) ends = rw e (λ s item. omega (arith, f s item))
  by_rule (rule.objects {is_static = is_static} {is_const = is_const} {width = width} {d = d} {ds = ds} e) (stands specifiers (stands one rest)) ends =
      let line = split Claim own (followed (a.declarator is_static is_const width) ds) (word Semicolon ∷ []) rest in
      rw e (λ here function. omega (arith, noted-append, one here, line.room, line-noted is_static is_const width ds line.earlier (after_declared here (Some function) d) function))
  by_rule (rule.view {d = d} e) (marks (marks (stands {i = k} start ends))) ends = λ here. omega (arith, start-noted d k (rw e start) here)
  by_rule (rule.object {d = d} e) (marks (stands dimensions (stands {i = k} start ends))) ends = λ here. omega (arith, start-noted d k (rw e start) here)
  by_rule rule.view_one (marks (stands x ends)) ends = λ here asked. omega (arith, x here asked)
  by_rule (rule.one {value = value}) (marks (stands x ends)) ends = λ here asked. omega (arith, value-noted value x here asked)
  -- functions
  by_rule (rule.function {f = f} e) (stands given (marks (marks (stands params (marks (stands {i = k} b ends)))))) ends =
      λ s item. omega (arith, function-noted f k (rw e b) s item)
  by_rule rule.defined (stands b ends) ends = λ here inside. omega (arith, b here inside)
  -- statements
  by_rule (rule.block {b = b}) (marks rest) ends =
      let whole = split Claim own (each a.objects b.objects ++ each a.stmt b.stmts) (word CloseBrace ∷ []) rest in
      let inner = split Claim own (each a.objects b.objects) (each a.stmt b.stmts) whole.earlier in
      λ here inside. rw ties.block-parts (omega (
        arith,
        noted-append,
        whole.room,
        inner.room,
        lists-noted b.objects inner.earlier here inside.function,
        statements-noted b.stmts inner.later (starts_in_lists here inside.function b.objects).after inside,
      ))
  by_rule (rule.empty e) ends all = rw e (λ here inside. rw ties.tied-Empty (omega arith))
  by_rule (rule.block_stmt e) ends (stands b ends) = rw e (λ here inside. rw ties.tied-Block (omega (arith, b here inside)))
  by_rule (rule.simple_stmt e) ends (stands x (marks ends)) = rw e (λ here inside. rw ties.tied-Simple (omega (arith, x here)))
  by_rule (rule.if_ {cond = cond} e) ends (marks (marks (stands c (marks (stands b ends))))) =
      rw e (λ here inside. rw ties.tied-Then (omega (arith, noted-append, noted-expression cond here, c.number here, b here inside)))
  by_rule (rule.if_else {cond = cond} {branch = branch} e closed) ends (marks (marks (stands c (marks (stands b (marks (stands o ends))))))) =
      rw e (λ here inside. rw ties.tied-Else (omega (arith, noted-append, noted-expression cond here, c.number here, b here inside, o (with_objects here (tied_statement branch here inside).objects) inside)))
  by_rule (rule.while_ {cond = cond} e) ends (marks (marks (stands c (marks (stands b ends))))) =
      rw e (λ here inside. rw ties.tied-While (omega (arith, noted-append, noted-expression cond here, c.number here, b here inside)))
  by_rule (rule.do_ {body = body} {cond = cond} e) ends (marks (stands b (marks (marks (stands c (marks (marks ends))))))) =
      rw e (λ here inside. rw ties.tied-Do (let after : Here = with_objects here (tied_statement body here inside).objects in omega (arith, noted-append, noted-expression cond after, c.number after, b here inside)))
  by_rule (rule.for_ e) ends (marks (marks (stands f (marks (stands c (marks (stands l (marks (stands b ends))))))))) =
      rw e (λ here inside. rw ties.tied-For (omega (arith, noted-append, f here, c here, l here, b here inside)))
  by_rule (rule.break e) ends all = rw e (λ here inside. rw ties.tied-Break (omega arith))
  by_rule (rule.continue e) ends all = rw e (λ here inside. rw ties.tied-Continue (omega arith))
  by_rule (rule.return e) ends (marks (stands v (marks ends))) = rw e (λ here inside. rw ties.tied-Return (omega (arith, v here)))
  by_rule rule.no_simples ends ends = λ here. omega arith
  by_rule (rule.simples {xs = xs}) (stands one rest) ends = λ here. omega (arith, noted-append, one here, simples-noted xs rest here)
  by_rule (rule.assign {value = value} e) (stands p (marks (stands v ends))) ends =
      rw e (λ here. omega (arith, noted-append, noted-if, noted-expression value here, p here false, v.number here))
  by_rule (rule.step_after e) (stands p (marks ends)) ends = rw e (λ here. omega (arith, noted-append, noted-if, p here false))
  by_rule (rule.step_before e) (marks (stands p ends)) ends = rw e (λ here. omega (arith, noted-append, noted-if, p here false))
  by_rule (rule.set_overflow {value = value} e) (marks (marks (stands v ends))) ends = rw e (λ here. omega (arith, noted-expression value here, v.number here))
  by_rule (rule.simple_call e) (stands c ends) ends = rw e (λ here. omega (arith, c here))
  -- places and calls
  by_rule rule.place_named (stands p ends) ends = λ here ampersand. omega (arith, p here ampersand)
  by_rule (rule.deref e) ends (marks (marks ends)) = rw e (λ here ampersand. rw said.place-Deref (omega (arith, noted-if)))
  by_rule (rule.plain e) ends (marks ends) = rw e (λ here ampersand. rw said.place-Plain (omega (arith, exposed-by)))
  by_rule (rule.index {index = index} e) ends (marks (marks (stands x (marks ends)))) =
      rw e (λ here ampersand. rw said.place-Index (omega (arith, noted-append, noted-if, noted-expression index here, x.number here)))
  by_rule (rule.index2 {first = first} {second = second} e) ends (marks (marks (stands x (marks (marks (stands y (marks ends))))))) =
      rw e (λ here ampersand. rw said.place-Index2 (omega (arith, noted-append, noted-if, noted-expression first here, noted-expression second here, x.number here, y.number here)))
  by_rule (rule.call {name = name} e) (marks (marks (stands xs (marks ends)))) ends =
      rw e (λ here. rw said.call-parts (omega (arith, noted-append, noted-if, xs here (tie_of here name.name) 0)))
  by_rule rule.no_args ends ends = λ here tie n. omega arith
  by_rule (rule.args {xs = xs}) (stands one rest) ends = λ here tie n. omega (arith, noted-append, one here (asked_of here.items tie n), arguments-noted xs rest here tie (n + 1))
  by_rule (rule.address e) (marks (stands p ends)) ends = rw e (λ here asked. rw said.argument-Address (omega (arith, p here true)))
  by_rule (rule.value {e = value} e) (stands x ends) ends = rw e (λ here asked. omega (arith, value-noted value x here asked))
  -- expressions
  by_rule rule.no_expr ends ends = λ here. omega arith
  by_rule (rule.an_expr {e = e}) (stands x ends) ends = λ here. omega (arith, noted-expression e here, x.number here)
  by_rule rule.plain_expr (stands x ends) ends = record { number = λ here. omega (arith, x.number here); view = λ at here. omega (arith, x.view at here) }
  by_rule (rule.choose {cond = cond} {one = one} {other = other} e) (stands x ends) (marks (stands y (marks (stands z ends)))) =
      rw e (no-view-noted (λ here. rw said.tied-Choose (omega (arith, noted-append, noted-expression cond here, noted-expression one here, noted-expression other here, x.number here, y.number here, z.number here))) (λ at here. rw said.viewed-Choose refl))
  by_rule rule.operand (stands x ends) ends = record { number = λ here. omega (arith, x.number here); view = λ at here. omega (arith, x.view at here) }
  by_rule (rule.binary {left = left} {right = right} rank e) (stands x ends) (marks (stands y ends)) =
      rw e (no-view-noted (λ here. rw said.tied-Binary (omega (arith, noted-append, noted-if, noted-expression left here, noted-expression right here, x.number here, y.number here))) (λ at here. rw said.viewed-Binary refl))
  by_rule rule.no_chain (stands x ends) ends = record { number = λ here. omega (arith, x.number here); view = λ at here. omega (arith, x.view at here) }
  by_rule (rule.unary {part = part} e) ends (marks (stands x ends)) =
      rw e (no-view-noted (λ here. rw said.tied-Unary (omega (arith, noted-append, noted-if, noted-expression part here, x.number here))) (λ at here. rw said.viewed-Unary refl))
  by_rule (rule.cast {part = part} e) ends (marks (stands type (marks (stands x ends)))) =
      rw e (no-view-noted (λ here. rw said.tied-Cast (omega (arith, noted-expression part here, x.number here))) (λ at here. rw said.viewed-Cast refl))
  by_rule (rule.brackets e) ends (marks (stands x (marks ends))) = rw e (record { number = λ here. omega (arith, x.number here); view = λ at here. omega (arith, x.view at here) })
  by_rule (rule.number e) ends all = rw e (no-view-noted (λ here. rw said.tied-Int (omega arith)) (λ at here. rw said.viewed-Int refl))
  by_rule (rule.read_overflow e) ends all = rw e (no-view-noted (λ here. rw said.tied-ReadOverflow (omega arith)) (λ at here. rw said.viewed-ReadOverflow refl))
  by_rule (rule.call_value e) ends (stands c ends) = rw e (no-view-noted (λ here. rw said.tied-Call (omega (arith, c here))) (λ at here. rw said.viewed-Call refl))
  by_rule (rule.read e) ends (stands p ends) =
      rw e (record { number = λ here. rw said.tied-Read (omega (arith, p here false)); view = λ at here. rw said.viewed-Read (omega (arith, p here false)) })
  -- of every other part nothing is claimed
  by_rule other all more = tt
