-- All statements and blocks at once, by induction over them.
use Rattle.std.proofs.Common.{ℕ, Bool, IsTrue, List, [], ◌∷◌, map, sym, subst}
use Rattle.std.specs.Prelude.{Some, None}
use Rattle.c_typed.specs.declared.statement.TypedBlock.{TypedBlock, roll-TypedBlock, map-TypedBlock}
use Rattle.c_typed.specs.declared.statement.TypedStmt.{TypedStmt, roll-TypedStmt, map-TypedStmt}
use Rattle.c_typed.specs.declared.statement.TypedStmt.TheOpen as node
use Rattle.c_typed.specs.declared.statement.TypedStmt.TheFolds.{ind-TypedStmt, ind-TypedBlock}
use Rattle.c_typed.specs.declared.statement.TypedStmt.TheVariants as statement
use Rattle.typed_meaning.specs.Expressions.{Setting, Called}
use Rattle.tree_agreement.specs.Agreement.{Renumbers}
use Rattle.tree_agreement.specs.Lawful.{all_hold}
use Rattle.tree_agreement.proofs.Whole.{both_true, expression_agrees}
use Rattle.statement_agreement.specs.Lawful.{statement_fits}
use Rattle.statement_agreement.specs.Agreement.{StatementAgrees, BlockAgrees}
use Rattle.statement_agreement.proofs.LawfulStatements as lawful
use Rattle.statement_agreement.proofs.Simples.{simple_agrees}
use Rattle.statement_agreement.proofs.Agree as one

module _ (here : Setting) (numbers : List ℕ) (called tree_called : Called) (defined : ℕ → Bool) (renumbers : Renumbers defined numbers called tree_called) where
  abbrev S : TypedStmt → Type 0
  S = StatementAgrees here numbers called tree_called defined

  abbrev B : TypedBlock → Type 0
  B = BlockAgrees here numbers called tree_called defined

  abbrev SS : Type 0
  SS = (s : TypedStmt) × S s

  abbrev SB : Type 0
  SB = (b : TypedBlock) × B b

  on_statement : (y : node.TypedStmt-F SS SB) → S (roll-TypedStmt (map-TypedStmt SS SB TypedStmt TypedBlock (λ e. e.0) (λ e. e.0) y))
  on_statement (node.Empty at) =
      subst S (sym (statement.rolls-Empty at)) (λ fits. one.agree-Empty here numbers called tree_called defined renumbers at)
  on_statement (node.Block block) =
      subst S (sym (statement.rolls-Block block.0)) (λ fits. one.agree-Block here numbers called tree_called defined renumbers block.0 (block.1 (rw lawful.statement-Block at fits)))
  on_statement (node.Simple simple) =
      subst S (sym (statement.rolls-Simple simple)) (λ fits. one.agree-Simple here numbers called tree_called defined renumbers simple (simple_agrees here numbers called tree_called defined renumbers simple (rw lawful.statement-Simple at fits)))
  on_statement (node.If at cond this None) =
      subst S (sym (statement.rolls-If at cond this.0 None)) (λ fits. let right = both_true _ _ (rw lawful.statement-If at fits) in let then = both_true _ _ right.1 in one.agree-If here numbers called tree_called defined renumbers at cond this.0 (expression_agrees here numbers called tree_called defined renumbers cond right.0).value (this.1 then.0))
  on_statement (node.If at cond this (Some other)) =
      subst S (sym (statement.rolls-If at cond this.0 (Some other.0))) (λ fits. let right = both_true _ _ (rw lawful.statement-Else at fits) in let then = both_true _ _ right.1 in one.agree-Else here numbers called tree_called defined renumbers at cond this.0 other.0 (expression_agrees here numbers called tree_called defined renumbers cond right.0).value (this.1 then.0) (other.1 then.1))
  on_statement (node.While at cond body) =
      subst S (sym (statement.rolls-While at cond body.0)) (λ fits. let right = both_true _ _ (rw lawful.statement-While at fits) in one.agree-While here numbers called tree_called defined renumbers at cond body.0 (expression_agrees here numbers called tree_called defined renumbers cond right.0).value (body.1 right.1))
  on_statement (node.Do at body cond) =
      subst S (sym (statement.rolls-Do at body.0 cond)) (λ fits. let right = both_true _ _ (rw lawful.statement-Do at fits) in one.agree-Do here numbers called tree_called defined renumbers at body.0 cond (expression_agrees here numbers called tree_called defined renumbers cond right.0).value (body.1 right.1))
  on_statement (node.For at first cond last body) =
      subst S (sym (statement.rolls-For at first cond last body.0)) (λ fits. let right = both_true _ _ (rw lawful.statement-For at fits) in let more = both_true _ _ right.1 in let rest = both_true _ _ more.1 in one.agree-For here numbers called tree_called defined renumbers at first cond last body.0 right.0 more.0 rest.0 (body.1 rest.1))
  on_statement (node.Break at) =
      subst S (sym (statement.rolls-Break at)) (λ fits. one.agree-Break here numbers called tree_called defined renumbers at)
  on_statement (node.Continue at) =
      subst S (sym (statement.rolls-Continue at)) (λ fits. one.agree-Continue here numbers called tree_called defined renumbers at)
  on_statement (node.Return at value) =
      subst S (sym (statement.rolls-Return at value)) (λ fits. one.agree-Return here numbers called tree_called defined renumbers at value (rw lawful.statement-Return at fits))

  on_statements : (ys : List SS) → IsTrue (all_hold (map (statement_fits defined) (map (λ (e : SS). e.0) ys))) → one.EachDoes here numbers called tree_called defined renumbers (map (λ (e : SS). e.0) ys)
  on_statements [] fits = one.none
  on_statements (y ∷ ys) fits = let right = both_true _ _ fits in one.next (y.1 right.0) (on_statements ys right.1)

  on_block : (y : node.TypedBlock-F SS SB) → B (roll-TypedBlock (map-TypedBlock SS SB TypedStmt TypedBlock (λ e. e.0) (λ e. e.0) y))
  on_block y fits =
      let right = both_true _ _ (rw lawful.block-is at fits) in
      let more = both_true _ _ right.1 in
      one.agree-block here numbers called tree_called defined renumbers (roll-TypedBlock (map-TypedBlock SS SB TypedStmt TypedBlock (λ e. e.0) (λ e. e.0) y)) right.0 more.0 (on_statements y.stmts more.1)

  pub statement_agrees : (stmt : TypedStmt) → S stmt
  statement_agrees =
      ind-TypedStmt S B (λ x y is. subst (λ z. S (roll-TypedStmt z)) is (on_statement y)) (λ x y is. subst (λ z. B (roll-TypedBlock z)) is (on_block y))

  pub block_agrees : (block : TypedBlock) → B block
  block_agrees =
      ind-TypedBlock S B (λ x y is. subst (λ z. S (roll-TypedStmt z)) is (on_statement y)) (λ x y is. subst (λ z. B (roll-TypedBlock z)) is (on_block y))
