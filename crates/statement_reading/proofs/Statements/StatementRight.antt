-- Statements are read rightly, where expressions, places, calls and objects are.
use Rattle.std.proofs.Common.{◌≡◌, ◌≢◌, ℕ, zero, suc, Bool, true, false, List, [], ◌∷◌, ◌++◌, Option, None, refl, subst, sym}
use Rattle.std.specs.Prelude.{Result}
use Rattle.sat_base.specs.declared.name.At.{At}
use Rattle.c_tree.specs.declared.declaration.Objects.{Objects}
use Rattle.c_tree.specs.declared.expression.Expr.{Expr}
use Rattle.c_tree.specs.declared.simple.Simple.{Simple}
use Rattle.c_tree.specs.declared.statement.Block.{Block}
use Rattle.c_tree.specs.declared.statement.Stmt.{Stmt}
use Rattle.c_tree.specs.declared.statement.Stmt.TheVariants as stmt
use Rattle.c_grammar.specs.declared.symbol.Symbol.{Symbol}
use Rattle.c_grammar.specs.declared.symbol.Symbol.TheVariants as symbol
use Rattle.c_grammar.specs.Grammar.{Rule}
use Rattle.c_grammar.specs.Grammar as rule
use Rattle.c_grammar.specs.Nodes as a
use Rattle.c_grammar.specs.Parts.{Part, node, word, kept}
use Rattle.right_reading.specs.ReadExpressions.{expression_at}
use Rattle.right_reading.specs.Lists.{after}
use Rattle.right_reading.specs.ReadStatements.{closed, simple_at, condition_at, simples_before_at, expression_before_semicolon_at, block_by, while_by, do_by, for_by, break_at, continue_at, return_at, simple_statement_at, next_statement, statement_with, block_with}
use Rattle.c_grammar.specs.Spots.{Spot}
use Rattle.right_reading.specs.Stream.{ahead, Fault, Parser, both, take_at}
use Rattle.c_grammar.specs.Symbols.{same_symbol}
use Rattle.statement_reading.proofs.BlockRight.{block_right}
use Rattle.statement_reading.proofs.Statements.IfRight.{if_right}
use Rattle.right_reading.specs.Right.{Ends, Right, always, Reads}
use Rattle.right_reading.specs.RightExpressions.{RightExpressions}
use Rattle.right_reading.proofs.Composed.Rules.{Choice, no_parts, late_seen, token-ahead}
use Rattle.statement_reading.proofs.Simples.SimpleMarks.{stops_simple, any_simple}
use Rattle.statement_reading.proofs.Simples.SimpleRight.{simple_right}
use Rattle.statement_reading.proofs.Statements.StatementChoices.{empty_parts, empty_choice, block_stmt_parts, block_stmt_choice, while_parts, while_of, stops_while, while_choice, do_parts, do_of, do_choice, Turns, for_parts, for_of, stops_for, for_choice, break_parts, break_choice, continue_parts, continue_choice, return_parts, return_of, return_choice, other_statement, simple_stmt_parts, simple_stmt_choice}
use Rattle.statement_reading.proofs.Statements.StatementParts.{simples_before_right, expression_before_right, condition_right}
use Rattle.statement_reading.proofs.Statements.StatementRefused.{statement_refused}
use Rattle.statement_reading.proofs.Statements.StatementStops.{stops_statement, no_else, Post, Closes, statement_closes}
use Rattle.right_reading.proofs.Composed.Steps.{both_stops, Right-both, Right-seen}
use Rattle.right_reading.proofs.OneToken.Tokens.{nowhere, take_right, any_expression}
use Rattle.right_reading.proofs.OneToken.Words.{after_right, closed_right}
use Rattle.right_reading.specs.Stops.{stops_expression}
use Rattle.right_reading.proofs.Composed.Dependent.{seen_by}

abbrev of_statement : Stmt → List Part
of_statement s = node (a.stmt s) ∷ []

any_statement : Stmt
any_statement = stmt.Empty nowhere

-- by a rule that puts it together one node below
by_rule : {A : Type 0} (n : ℕ) (of : A → List Part) (stops : A → Symbol → Bool) (i : List Spot) (mk : A → Stmt) → ((x : A) → Rule (a.stmt (mk x)) [] (of x)) → Choice a.stmt no_parts of stops stops_statement [] i mk
    → (y : Result (A × List Spot) Fault) → Right of n stops [] i y → Right of_statement (suc n) stops_statement [] i (seen_by mk y)
by_rule n of stops i mk rules choice y r = Right-seen of of_statement n (suc n) stops stops_statement [] i mk (late_seen a.stmt of n stops stops_statement [] i mk rules choice) y r

module _ (n : ℕ)
    (expression_right : Reads (λ (e : Expr). node (a.expr e) ∷ []) n stops_expression (expression_at n))
    (simple_right_n : Reads (λ (x : Simple). node (a.simple x) ∷ []) n stops_simple (simple_at n))
    (objects : Parser Objects) (objects_right : Reads (λ (o : Objects). node (a.objects o) ∷ []) n always objects)
    (statement : Parser Stmt) (statement_right_n : Reads (λ (s : Stmt). node (a.stmt s) ∷ []) n stops_statement statement)
    (closes : (i : List Spot) → Post Closes (statement i)) where
  abbrev of_condition : Expr → List Part
  of_condition e = word symbol.OpenParen ∷ node (a.expr e) ∷ word symbol.CloseParen ∷ []

  abbrev of_simples : Symbol → List Simple → List Part
  of_simples mark xs = node (a.simples xs) ∷ word mark ∷ []

  abbrev of_test : Option Expr → List Part
  of_test e = node (a.maybe_expr e) ∷ word symbol.Semicolon ∷ []

  empty_right : (i : List Spot) → Ends i → ahead i ≡ symbol.Semicolon → Right of_statement (suc n) stops_statement [] i (seen_by stmt.Empty (take_at symbol.Semicolon i))
  empty_right i ends is =
      let more : symbol.Semicolon ≢ symbol.End = λ e. cc in
      by_rule n empty_parts always i stmt.Empty (λ at. rule.empty refl) (empty_choice i is) (take_at symbol.Semicolon i) (take_right symbol.Semicolon more n i ends)

  block_stmt_right : (i : List Spot) → Ends i → ahead i ≡ symbol.OpenBrace → Right of_statement (suc n) stops_statement [] i (seen_by stmt.Block (block_by objects statement i))
  block_stmt_right i ends is =
      by_rule n block_stmt_parts always i stmt.Block (λ b. rule.block_stmt refl) (block_stmt_choice i is) (block_by objects statement i) (block_right n objects objects_right statement statement_right_n i ends)

  while_right : (i : List Spot) → Ends i → ahead i ≡ symbol.While → Right of_statement (suc n) stops_statement [] i (while_by n statement i)
  unfolding while_by
  while_right i ends is =
      let more : symbol.While ≢ symbol.End = λ e. cc in
      let inner : (j : List Spot) → Ends j → Right (λ (z : Expr × Stmt). word symbol.OpenParen ∷ node (a.expr z.0) ∷ word symbol.CloseParen ∷ node (a.stmt z.1) ∷ []) n (both_stops stops_statement) [] j (both (condition_at n) statement j) =
      λ j ends_j. Right-both of_condition of_statement n always stops_statement (λ e x c v s sp st. refl) any_statement (condition_at n) statement [] j (condition_right n expression_right j ends_j) statement_right_n in
      let r = Right-both (λ (at : At). kept symbol.While at ∷ []) (λ (z : Expr × Stmt). word symbol.OpenParen ∷ node (a.expr z.0) ∷ word symbol.CloseParen ∷ node (a.stmt z.1) ∷ []) n always (both_stops stops_statement)
      (λ x z c v s sp st. refl) (any_expression, any_statement) (take_at symbol.While) (both (condition_at n) statement) [] i (take_right symbol.While more n i ends) inner in
      by_rule n while_parts stops_while i while_of (λ z. rule.while_ refl) (while_choice i is) (both (take_at symbol.While) (both (condition_at n) statement) i) r

  do_right : (i : List Spot) → Ends i → ahead i ≡ symbol.Do → Right of_statement (suc n) stops_statement [] i (do_by n statement i)
  unfolding do_by
  do_right i ends is =
      let more : symbol.Do ≢ symbol.End = λ e. cc in
      let again : symbol.While ≢ symbol.End = λ e. cc in
      let semicolon : symbol.Semicolon ≢ symbol.End = λ e. cc in
      let last = after symbol.While (closed (condition_at n) symbol.Semicolon) in
      let last_right : (j : List Spot) → Ends j → Right (λ (e : Expr). word symbol.While ∷ word symbol.OpenParen ∷ node (a.expr e) ∷ word symbol.CloseParen ∷ word symbol.Semicolon ∷ []) n always [] j (last j) =
      after_right (λ (e : Expr). word symbol.OpenParen ∷ node (a.expr e) ∷ word symbol.CloseParen ∷ word symbol.Semicolon ∷ []) n always symbol.While again any_expression (closed (condition_at n) symbol.Semicolon)
      (λ k ends_k. closed_right of_condition n always symbol.Semicolon semicolon any_expression (condition_at n) (λ e. refl) k (condition_right n expression_right k ends_k)) in
      let inner : (j : List Spot) → Ends j
      → Right (λ (z : Stmt × Expr). node (a.stmt z.0) ∷ word symbol.While ∷ word symbol.OpenParen ∷ node (a.expr z.1) ∷ word symbol.CloseParen ∷ word symbol.Semicolon ∷ []) n (both_stops (always {A = Expr})) [] j (both statement last j) =
      λ j ends_j. Right-both of_statement (λ (e : Expr). word symbol.While ∷ word symbol.OpenParen ∷ node (a.expr e) ∷ word symbol.CloseParen ∷ word symbol.Semicolon ∷ []) n stops_statement always
      (λ x e c v s sp st. no_else x (ahead (v ++ s)) (subst (λ (y : Symbol). same_symbol y symbol.Else ≡ false) (sym (token-ahead s sp)) refl)) any_expression statement last [] j (statement_right_n j ends_j) last_right in
      let r = Right-both (λ (at : At). kept symbol.Do at ∷ []) (λ (z : Stmt × Expr). node (a.stmt z.0) ∷ word symbol.While ∷ word symbol.OpenParen ∷ node (a.expr z.1) ∷ word symbol.CloseParen ∷ word symbol.Semicolon ∷ [])
      n always (both_stops (always {A = Expr})) (λ x z c v s sp st. refl) (any_statement, any_expression) (take_at symbol.Do) (both statement last) [] i (take_right symbol.Do more n i ends) inner in
      by_rule n do_parts always i do_of (λ z. rule.do_ refl) (do_choice i is) (both (take_at symbol.Do) (both statement last) i) r

  -- the step and the body of a `for`
  last_right : (i : List Spot) → Ends i → Right (λ (z : List Simple × Stmt). node (a.simples z.0) ∷ word symbol.CloseParen ∷ node (a.stmt z.1) ∷ []) n (both_stops stops_statement) [] i (both (simples_before_at symbol.CloseParen n) statement i)
  last_right i ends =
      let paren : symbol.CloseParen ≢ symbol.End = λ e. cc in
      Right-both (of_simples symbol.CloseParen) of_statement n always stops_statement (λ e x c v s sp st. refl) any_statement (simples_before_at symbol.CloseParen n) statement [] i
      (simples_before_right n simple_right_n symbol.CloseParen paren refl refl i ends) statement_right_n

  -- those after its condition
  test_right : (i : List Spot) → Ends i
      → Right (λ (z : Option Expr × (List Simple × Stmt)). node (a.maybe_expr z.0) ∷ word symbol.Semicolon ∷ node (a.simples z.1.0) ∷ word symbol.CloseParen ∷ node (a.stmt z.1.1) ∷ []) n (both_stops (both_stops stops_statement)) [] i
      (both (expression_before_semicolon_at n) (both (simples_before_at symbol.CloseParen n) statement) i)
  test_right i ends =
      Right-both of_test (λ (z : List Simple × Stmt). node (a.simples z.0) ∷ word symbol.CloseParen ∷ node (a.stmt z.1) ∷ []) n always (both_stops stops_statement) (λ e x c v s sp st. refl) ([], any_statement)
      (expression_before_semicolon_at n) (both (simples_before_at symbol.CloseParen n) statement) [] i (expression_before_right n expression_right i ends) last_right

  for_right : (i : List Spot) → Ends i → ahead i ≡ symbol.For → Right of_statement (suc n) stops_statement [] i (for_by n statement i)
  unfolding for_by
  for_right i ends is =
      let more : symbol.For ≢ symbol.End = λ e. cc in
      let paren : symbol.OpenParen ≢ symbol.End = λ e. cc in
      let semicolon : symbol.Semicolon ≢ symbol.End = λ e. cc in
      let last = both (expression_before_semicolon_at n) (both (simples_before_at symbol.CloseParen n) statement) in
      let begin = after symbol.OpenParen (simples_before_at symbol.Semicolon n) in
      let begin_right = after_right (of_simples symbol.Semicolon) n always symbol.OpenParen paren [] (simples_before_at symbol.Semicolon n) (simples_before_right n simple_right_n symbol.Semicolon semicolon refl refl) in
      let inner : (j : List Spot) → Ends j → Right (λ (z : Turns).
      word symbol.OpenParen ∷ node (a.simples z.0) ∷ word symbol.Semicolon ∷ node (a.maybe_expr z.1.0) ∷ word symbol.Semicolon ∷ node (a.simples z.1.1.0) ∷ word symbol.CloseParen ∷ node (a.stmt z.1.1.1) ∷ [])
      n (both_stops (both_stops (both_stops stops_statement))) [] j (both begin last j) =
      λ j ends_j. Right-both (λ (xs : List Simple). word symbol.OpenParen ∷ node (a.simples xs) ∷ word symbol.Semicolon ∷ [])
      (λ (z : Option Expr × (List Simple × Stmt)). node (a.maybe_expr z.0) ∷ word symbol.Semicolon ∷ node (a.simples z.1.0) ∷ word symbol.CloseParen ∷ node (a.stmt z.1.1) ∷ []) n always (both_stops (both_stops stops_statement))
      (λ e x c v s sp st. refl) (None, ([], any_statement)) begin last [] j (begin_right j ends_j) test_right in
      let r = Right-both (λ (at : At). kept symbol.For at ∷ [])
      (λ (z : Turns).
      word symbol.OpenParen ∷ node (a.simples z.0) ∷ word symbol.Semicolon ∷ node (a.maybe_expr z.1.0) ∷ word symbol.Semicolon ∷ node (a.simples z.1.1.0) ∷ word symbol.CloseParen ∷ node (a.stmt z.1.1.1) ∷ [])
      n always (both_stops (both_stops (both_stops stops_statement))) (λ x z c v s sp st. refl) ([], (None, ([], any_statement))) (take_at symbol.For) (both begin last) [] i (take_right symbol.For more n i ends) inner in
      by_rule n for_parts stops_for i for_of (λ z. rule.for_ refl) (for_choice i is) (both (take_at symbol.For) (both begin last) i) r

  break_right : (i : List Spot) → Ends i → ahead i ≡ symbol.Break → Right of_statement (suc n) stops_statement [] i (break_at i)
  unfolding break_at
  break_right i ends is =
      let more : symbol.Break ≢ symbol.End = λ e. cc in
      let semicolon : symbol.Semicolon ≢ symbol.End = λ e. cc in
      by_rule n break_parts always i stmt.Break (λ at. rule.break refl) (break_choice i is) (closed (take_at symbol.Break) symbol.Semicolon i)
      (closed_right (λ (at : At). kept symbol.Break at ∷ []) n always symbol.Semicolon semicolon nowhere (take_at symbol.Break) (λ at. refl) i (take_right symbol.Break more n i ends))

  continue_right : (i : List Spot) → Ends i → ahead i ≡ symbol.Continue → Right of_statement (suc n) stops_statement [] i (continue_at i)
  unfolding continue_at
  continue_right i ends is =
      let more : symbol.Continue ≢ symbol.End = λ e. cc in
      let semicolon : symbol.Semicolon ≢ symbol.End = λ e. cc in
      by_rule n continue_parts always i stmt.Continue (λ at. rule.continue refl) (continue_choice i is) (closed (take_at symbol.Continue) symbol.Semicolon i)
      (closed_right (λ (at : At). kept symbol.Continue at ∷ []) n always symbol.Semicolon semicolon nowhere (take_at symbol.Continue) (λ at. refl) i (take_right symbol.Continue more n i ends))

  return_right : (i : List Spot) → Ends i → ahead i ≡ symbol.Return → Right of_statement (suc n) stops_statement [] i (return_at n i)
  unfolding return_at
  return_right i ends is =
      let more : symbol.Return ≢ symbol.End = λ e. cc in
      let r = Right-both (λ (at : At). kept symbol.Return at ∷ []) of_test n always always (λ x z c v s sp st. refl) None (take_at symbol.Return) (expression_before_semicolon_at n) [] i
      (take_right symbol.Return more n i ends) (expression_before_right n expression_right) in
      by_rule n return_parts always i return_of (λ z. rule.return refl) (return_choice i is) (both (take_at symbol.Return) (expression_before_semicolon_at n) i) r

  simple_stmt_right : (i : List Spot) → Ends i → other_statement (ahead i) ≡ true → Right of_statement (suc n) stops_statement [] i (simple_statement_at n i)
  unfolding simple_statement_at
  simple_stmt_right i ends other =
      let semicolon : symbol.Semicolon ≢ symbol.End = λ e. cc in
      by_rule n simple_stmt_parts always i stmt.Simple (λ x. rule.simple_stmt refl) (simple_stmt_choice i other) (closed (simple_at n) symbol.Semicolon i)
      (closed_right (λ (x : Simple). node (a.simple x) ∷ []) n stops_simple symbol.Semicolon semicolon any_simple (simple_at n) (λ x. refl) i (simple_right_n i ends))

  next_right : (i : List Spot) → Ends i → (s : Symbol) → ahead i ≡ s → Right of_statement (suc n) stops_statement [] i (next_statement s objects n statement i)
  next_right i ends symbol.Semicolon e = empty_right i ends e
  next_right i ends symbol.OpenBrace e = block_stmt_right i ends e
  next_right i ends symbol.If e = if_right n expression_right statement statement_right_n closes i ends e
  next_right i ends symbol.While e = while_right i ends e
  next_right i ends symbol.Do e = do_right i ends e
  next_right i ends symbol.For e = for_right i ends e
  next_right i ends symbol.Break e = break_right i ends e
  next_right i ends symbol.Continue e = continue_right i ends e
  next_right i ends symbol.Return e = return_right i ends e
  next_right i ends s e = simple_stmt_right i ends (subst (λ (x : Symbol). other_statement x ≡ true) (sym e) refl)

-- ---- statements and blocks of any limit

module _ (right : (n : ℕ) → RightExpressions n)
    (objects : ℕ → Parser Objects) (objects_right : (n : ℕ) → Reads (λ (o : Objects). node (a.objects o) ∷ []) n always (objects n)) where
  pub statement_right : (n : ℕ) → Reads (λ (s : Stmt). node (a.stmt s) ∷ []) n stops_statement (statement_with objects n)
  unfolding statement_with
  statement_right zero i ends = statement_refused i ends
  statement_right (suc n) i ends =
      next_right n (right n).expression (simple_right n (right n)) (objects n) (objects_right n) (statement_with objects n)
      (λ j ends_j. statement_right n j ends_j) (statement_closes objects n) i ends (ahead i) refl

  pub block_with_right : (n : ℕ) → Reads (λ (b : Block). node (a.block b) ∷ []) n always (block_with objects n)
  unfolding block_with
  block_with_right n i ends = block_right n (objects n) (objects_right n) (statement_with objects n) (statement_right n) i ends
