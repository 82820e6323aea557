-- Which statements are lawful: one equation for each constructor.
use Rattle.std.proofs.Common.{◌≡◌, ℕ, List, map, Bool, true, ap, sym, ◌∙◌}
use Rattle.std.specs.Prelude.{Option, Some, None, ◌&&◌}
use Rattle.sat_base.specs.declared.name.At.{At}
use Rattle.c_typed.specs.declared.expression.TypedExpr.{TypedExpr}
use Rattle.c_typed.specs.declared.simple.TypedSimple.{TypedSimple}
use Rattle.c_typed.specs.declared.statement.TypedBlock.{TypedBlock}
use Rattle.c_typed.specs.declared.statement.TypedStmt.{TypedStmt}
use Rattle.c_typed.specs.declared.statement.TypedStmt.TheOpen as node
use Rattle.c_typed.specs.declared.statement.TypedStmt.TheFolds.{fold-roll-TypedStmt, fold_out-TypedBlock}
use Rattle.c_typed.specs.declared.statement.TypedStmt.TheVariants as statement
use Rattle.source_trees.specs.Statements.{first_object}
use Rattle.typed_meaning.specs.Statements.{option_of}
use Rattle.tree_agreement.specs.Lawful.{all_hold, expression_fits}
use Rattle.statement_agreement.specs.Lawful.{follow, fits_where, simple_fits, start_fits, of_statement, of_block, statement_fits, block_fits}

module _ (defined : ℕ → Bool) where
  pub statement-Empty : (at : At) → statement_fits defined (statement.Empty at) ≡ true
  unfolding of_statement
  statement-Empty at = ap (statement_fits defined) (sym (statement.rolls-Empty at)) ∙ fold-roll-TypedStmt _ _ (of_statement defined) (of_block defined) (node.Empty at)

  pub statement-Block : (block : TypedBlock) → statement_fits defined (statement.Block block) ≡ block_fits defined block
  unfolding of_statement
  statement-Block block = ap (statement_fits defined) (sym (statement.rolls-Block block)) ∙ fold-roll-TypedStmt _ _ (of_statement defined) (of_block defined) (node.Block block)

  pub statement-Simple : (simple : TypedSimple) → statement_fits defined (statement.Simple simple) ≡ simple_fits defined simple
  unfolding of_statement
  statement-Simple simple = ap (statement_fits defined) (sym (statement.rolls-Simple simple)) ∙ fold-roll-TypedStmt _ _ (of_statement defined) (of_block defined) (node.Simple simple)

  pub statement-If : (at : At) (cond : TypedExpr) (this : TypedStmt) → statement_fits defined (statement.If at cond this None) ≡ (expression_fits defined cond && (statement_fits defined this && true))
  unfolding of_statement
  statement-If at cond this = ap (statement_fits defined) (sym (statement.rolls-If at cond this None)) ∙ fold-roll-TypedStmt _ _ (of_statement defined) (of_block defined) (node.If at cond this None)

  pub statement-Else : (at : At) (cond : TypedExpr) (this other : TypedStmt) → statement_fits defined (statement.If at cond this (Some other)) ≡ (expression_fits defined cond && (statement_fits defined this && statement_fits defined other))
  unfolding of_statement
  statement-Else at cond this other = ap (statement_fits defined) (sym (statement.rolls-If at cond this (Some other))) ∙ fold-roll-TypedStmt _ _ (of_statement defined) (of_block defined) (node.If at cond this (Some other))

  pub statement-While : (at : At) (cond : TypedExpr) (body : TypedStmt) → statement_fits defined (statement.While at cond body) ≡ (expression_fits defined cond && statement_fits defined body)
  unfolding of_statement
  statement-While at cond body = ap (statement_fits defined) (sym (statement.rolls-While at cond body)) ∙ fold-roll-TypedStmt _ _ (of_statement defined) (of_block defined) (node.While at cond body)

  pub statement-Do : (at : At) (body : TypedStmt) (cond : TypedExpr) → statement_fits defined (statement.Do at body cond) ≡ (expression_fits defined cond && statement_fits defined body)
  unfolding of_statement
  statement-Do at body cond = ap (statement_fits defined) (sym (statement.rolls-Do at body cond)) ∙ fold-roll-TypedStmt _ _ (of_statement defined) (of_block defined) (node.Do at body cond)

  pub statement-For : (at : At) (first : List TypedSimple) (cond : Option TypedExpr) (last : List TypedSimple) (body : TypedStmt) → statement_fits defined (statement.For at first cond last body) ≡ (all_hold (map (simple_fits defined) first) && (fits_where (option_of (expression_fits defined) cond) && (all_hold (map (simple_fits defined) last) && statement_fits defined body)))
  unfolding of_statement
  statement-For at first cond last body = ap (statement_fits defined) (sym (statement.rolls-For at first cond last body)) ∙ fold-roll-TypedStmt _ _ (of_statement defined) (of_block defined) (node.For at first cond last body)

  pub statement-Break : (at : At) → statement_fits defined (statement.Break at) ≡ true
  unfolding of_statement
  statement-Break at = ap (statement_fits defined) (sym (statement.rolls-Break at)) ∙ fold-roll-TypedStmt _ _ (of_statement defined) (of_block defined) (node.Break at)

  pub statement-Continue : (at : At) → statement_fits defined (statement.Continue at) ≡ true
  unfolding of_statement
  statement-Continue at = ap (statement_fits defined) (sym (statement.rolls-Continue at)) ∙ fold-roll-TypedStmt _ _ (of_statement defined) (of_block defined) (node.Continue at)

  pub statement-Return : (at : At) (value : Option TypedExpr) → statement_fits defined (statement.Return at value) ≡ fits_where (option_of (expression_fits defined) value)
  unfolding of_statement
  statement-Return at value = ap (statement_fits defined) (sym (statement.rolls-Return at value)) ∙ fold-roll-TypedStmt _ _ (of_statement defined) (of_block defined) (node.Return at value)

  pub block-is : (block : TypedBlock) → block_fits defined block ≡ (follow (first_object block.objects) block.objects && (all_hold (map (start_fits defined) block.objects) && all_hold (map (statement_fits defined) block.stmts)))
  unfolding of_block
  block-is block = fold_out-TypedBlock _ _ (of_statement defined) (of_block defined) block
