-- Statements and blocks keep fitting.
use Rattle.std.proofs.Common.{ℕ, Bool, IsTrue, List, [], ◌∷◌, ◌++◌, map, refl, sym, subst}
use Rattle.std.specs.Prelude.{Option, Some, None, flat_map}
use Rattle.c_typed.specs.declared.call.TypedArg.{TypedArg}
use Rattle.c_typed.specs.declared.expression.TypedExpr.{TypedExpr}
use Rattle.c_typed.specs.declared.simple.TypedSimple.{TypedSimple}
use Rattle.c_typed.specs.declared.simple.TypedSimple.TheVariants.{Assign, Step, SetOverflow, Call}
use Rattle.c_typed.specs.declared.statement.Start.{Start}
use Rattle.c_typed.specs.declared.statement.TypedBlock.{TypedBlock, roll-TypedBlock, map-TypedBlock}
use Rattle.c_typed.specs.declared.statement.TypedStmt.{TypedStmt, roll-TypedStmt, map-TypedStmt}
use Rattle.c_typed.specs.declared.statement.TypedStmt.TheOpen as node
use Rattle.c_typed.specs.declared.statement.TypedStmt.TheFolds.{ind-TypedBlock}
use Rattle.c_typed.specs.declared.statement.TypedStmt.TheVariants as statement
use Rattle.called_functions.specs.Called.{called_in_argument, called_in_expression, called_in_option, called_in_simple, called_in_start, called_in_statement, called_in_block}
use Rattle.called_functions.proofs.Equations as calls
use Rattle.tree_agreement.specs.Lawful.{all_hold, argument_fits, expression_fits}
use Rattle.tree_agreement.proofs.Whole.{both_true}
use Rattle.typed_meaning.specs.Statements.{option_of}
use Rattle.statement_agreement.specs.Lawful.{fits_where, simple_fits, start_fits, statement_fits, block_fits}
use Rattle.statement_agreement.proofs.LawfulStatements as lawful
use Rattle.fitting_calls.specs.Keeping.{Keeps, BodiesKeepFitting}
use Rattle.fitting_calls.proofs.Expressions.{both, left, right, argument_keeps, place_keeps, call_keeps, expression_keeps}

module _ (first second : ℕ → Bool) where
  abbrev Kept : List ℕ → Type 0
  Kept = Keeps first second

  -- ---- parts of statements

  value_keeps : (value : Option TypedExpr) → IsTrue (fits_where (option_of (expression_fits first) value)) → Kept (called_in_option called_in_expression value)
      → IsTrue (fits_where (option_of (expression_fits second) value))
  value_keeps None fits kept = refl
  value_keeps (Some e) fits kept = expression_keeps first second e fits kept

  argument_where : (value : Option TypedArg) → IsTrue (fits_where (option_of (argument_fits first) value)) → Kept (called_in_option called_in_argument value)
      → IsTrue (fits_where (option_of (argument_fits second) value))
  argument_where None fits kept = refl
  argument_where (Some a) fits kept = argument_keeps first second a fits kept

  simple_keeps : (simple : TypedSimple) → IsTrue (simple_fits first simple) → Kept (called_in_simple simple) → IsTrue (simple_fits second simple)
  unfolding called_in_simple
  simple_keeps (Assign at place mark mark_at site value) fits kept =
      let all = both_true _ _ fits in
      both _ _ (place_keeps first second place all.0 (left first second _ _ kept)) (expression_keeps first second value all.1 (right first second _ _ kept))
  simple_keeps (Step at place up mark_at site) fits kept = place_keeps first second place fits kept
  simple_keeps (SetOverflow at value) fits kept = expression_keeps first second value fits kept
  simple_keeps (Call call) fits kept = call_keeps first second call fits kept

  simples_keep : (simples : List TypedSimple) → IsTrue (all_hold (map (simple_fits first) simples)) → Kept (flat_map called_in_simple simples)
      → IsTrue (all_hold (map (simple_fits second) simples))
  simples_keep [] fits kept = refl
  simples_keep (simple ∷ simples) fits kept =
      let all = both_true _ _ fits in
      both _ _ (simple_keeps simple all.0 (left first second _ _ kept)) (simples_keep simples all.1 (right first second _ _ kept))

  starts_keep : (starts : List Start) → IsTrue (all_hold (map (start_fits first) starts)) → Kept (flat_map called_in_start starts)
      → IsTrue (all_hold (map (start_fits second) starts))
  starts_keep [] fits kept = refl
  starts_keep (start ∷ starts) fits kept =
      let all = both_true _ _ fits in
      both _ _ (argument_where start.value all.0 (left first second _ _ kept)) (starts_keep starts all.1 (right first second _ _ kept))

  -- ---- statements and blocks

  abbrev S : TypedStmt → Type 0
  S stmt = IsTrue (statement_fits first stmt) → Kept (called_in_statement stmt) → IsTrue (statement_fits second stmt)

  abbrev B : TypedBlock → Type 0
  B block = IsTrue (block_fits first block) → Kept (called_in_block block) → IsTrue (block_fits second block)

  abbrev SS : Type 0
  SS = (s : TypedStmt) × S s

  abbrev SB : Type 0
  SB = (b : TypedBlock) × B b

  on_statement : (y : node.TypedStmt-F SS SB) → S (roll-TypedStmt (map-TypedStmt SS SB TypedStmt TypedBlock (λ e. e.0) (λ e. e.0) y))
  on_statement (node.Empty at) = subst S (sym (statement.rolls-Empty at)) (λ fits kept. rw lawful.statement-Empty refl)
  on_statement (node.Block block) =
      subst S (sym (statement.rolls-Block block.0)) (λ fits kept. rw lawful.statement-Block (block.1 (rw lawful.statement-Block at fits) (rw calls.statement-Block at kept)))
  on_statement (node.Simple simple) =
      subst S (sym (statement.rolls-Simple simple)) (λ fits kept. rw lawful.statement-Simple (simple_keeps simple (rw lawful.statement-Simple at fits) (rw calls.statement-Simple at kept)))
  on_statement (node.If at cond this None) =
      subst S (sym (statement.rolls-If at cond this.0 None)) (λ fits kept.
      let all = both_true _ _ (rw lawful.statement-If at fits) in let more = both_true _ _ all.1 in
      let among : Kept (called_in_expression cond ++ called_in_statement this.0) = rw calls.statement-If at kept in
      rw lawful.statement-If (both _ _ (expression_keeps first second cond all.0 (left first second _ _ among)) (both _ _ (this.1 more.0 (right first second _ _ among)) refl)))
  on_statement (node.If at cond this (Some other)) =
      subst S (sym (statement.rolls-If at cond this.0 (Some other.0))) (λ fits kept.
      let all = both_true _ _ (rw lawful.statement-Else at fits) in let more = both_true _ _ all.1 in
      let among : Kept (called_in_expression cond ++ called_in_statement this.0 ++ called_in_statement other.0) = rw calls.statement-Else at kept in
      let before = left first second _ _ among in
      rw lawful.statement-Else (both _ _ (expression_keeps first second cond all.0 (left first second _ _ before))
      (both _ _ (this.1 more.0 (right first second _ _ before)) (other.1 more.1 (right first second _ _ among)))))
  on_statement (node.While at cond body) =
      subst S (sym (statement.rolls-While at cond body.0)) (λ fits kept.
      let all = both_true _ _ (rw lawful.statement-While at fits) in
      let among : Kept (called_in_expression cond ++ called_in_statement body.0) = rw calls.statement-While at kept in
      rw lawful.statement-While (both _ _ (expression_keeps first second cond all.0 (left first second _ _ among)) (body.1 all.1 (right first second _ _ among))))
  on_statement (node.Do at body cond) =
      subst S (sym (statement.rolls-Do at body.0 cond)) (λ fits kept.
      let all = both_true _ _ (rw lawful.statement-Do at fits) in
      let among : Kept (called_in_statement body.0 ++ called_in_expression cond) = rw calls.statement-Do at kept in
      rw lawful.statement-Do (both _ _ (expression_keeps first second cond all.0 (right first second _ _ among)) (body.1 all.1 (left first second _ _ among))))
  on_statement (node.For at start cond last body) =
      subst S (sym (statement.rolls-For at start cond last body.0)) (λ fits kept.
      let all = both_true _ _ (rw lawful.statement-For at fits) in let more = both_true _ _ all.1 in let rest = both_true _ _ more.1 in
      let among : Kept (flat_map called_in_simple start ++ called_in_option called_in_expression cond ++ flat_map called_in_simple last ++ called_in_statement body.0) = rw calls.statement-For at kept in
      let three = left first second _ _ among in let two = left first second _ _ three in
      rw lawful.statement-For (both _ _ (simples_keep start all.0 (left first second _ _ two)) (both _ _ (value_keeps cond more.0 (right first second _ _ two))
      (both _ _ (simples_keep last rest.0 (right first second _ _ three)) (body.1 rest.1 (right first second _ _ among))))))
  on_statement (node.Break at) = subst S (sym (statement.rolls-Break at)) (λ fits kept. rw lawful.statement-Break refl)
  on_statement (node.Continue at) = subst S (sym (statement.rolls-Continue at)) (λ fits kept. rw lawful.statement-Continue refl)
  on_statement (node.Return at value) =
      subst S (sym (statement.rolls-Return at value)) (λ fits kept. rw lawful.statement-Return (value_keeps value (rw lawful.statement-Return at fits) (rw calls.statement-Return at kept)))

  on_statements : (ys : List SS) → IsTrue (all_hold (map (statement_fits first) (map (λ (e : SS). e.0) ys))) → Kept (flat_map called_in_statement (map (λ (e : SS). e.0) ys))
      → IsTrue (all_hold (map (statement_fits second) (map (λ (e : SS). e.0) ys)))
  on_statements [] fits kept = refl
  on_statements (y ∷ ys) fits kept =
      let all = both_true _ _ fits in both _ _ (y.1 all.0 (left first second _ _ kept)) (on_statements ys all.1 (right first second _ _ kept))

  on_block : (y : node.TypedBlock-F SS SB) → B (roll-TypedBlock (map-TypedBlock SS SB TypedStmt TypedBlock (λ e. e.0) (λ e. e.0) y))
  on_block y fits kept =
      let all = both_true _ _ (rw lawful.block-is at fits) in let more = both_true _ _ all.1 in
      let among : Kept (flat_map called_in_start y.objects ++ flat_map called_in_statement (map (λ (e : SS). e.0) y.stmts)) = rw calls.block-is at kept in
      rw lawful.block-is (both _ _ all.0 (both _ _ (starts_keep y.objects more.0 (left first second _ _ among)) (on_statements y.stmts more.1 (right first second _ _ among))))

  block_keeps : (block : TypedBlock) → B block
  block_keeps =
      ind-TypedBlock S B (λ x y is. subst (λ z. S (roll-TypedStmt z)) is (on_statement y)) (λ x y is. subst (λ z. B (roll-TypedBlock z)) is (on_block y))

pub bodies_keep_fitting : BodiesKeepFitting
bodies_keep_fitting = block_keeps
