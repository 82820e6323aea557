-- What stands in each statement: one equation for each.
use Rattle.std.proofs.Common.{◌≡◌, List, map, sym, ap, ◌∙◌}
use Rattle.std.specs.Prelude.{Option, Some, None}
use Rattle.sat_base.specs.declared.name.At.{At}
use Rattle.c_typed.specs.declared.expression.TypedExpr.{TypedExpr}
use Rattle.c_typed.specs.declared.simple.TypedSimple.{TypedSimple}
use Rattle.c_typed.specs.declared.statement.TypedBlock.{TypedBlock}
use Rattle.c_typed.specs.declared.statement.TypedStmt.{TypedStmt}
use Rattle.c_typed.specs.declared.statement.TypedStmt.TheOpen as node
use Rattle.c_typed.specs.declared.statement.TypedStmt.TheFolds.{fold-roll-TypedStmt, fold_out-TypedBlock}
use Rattle.c_typed.specs.declared.statement.TypedStmt.TheVariants as statement
use Rattle.c_typed.specs.declared.typed.Typed.{Typed}
use Rattle.lawful_sources.specs.Statements.{Walk, of_statement, of_block, in_statement, in_block}

module _ (source : Typed) where
  pub statement-Empty : (at : At) → in_statement source (statement.Empty at) ≡ of_statement source (node.Empty at)
  statement-Empty at = ap (in_statement source) (sym (statement.rolls-Empty at)) ∙ fold-roll-TypedStmt Walk Walk (of_statement source) (of_block source) (node.Empty at)

  pub statement-Block : (block : TypedBlock) → in_statement source (statement.Block block) ≡ of_statement source (node.Block (in_block source block))
  statement-Block block = ap (in_statement source) (sym (statement.rolls-Block block)) ∙ fold-roll-TypedStmt Walk Walk (of_statement source) (of_block source) (node.Block block)

  pub statement-Simple : (simple : TypedSimple) → in_statement source (statement.Simple simple) ≡ of_statement source (node.Simple simple)
  statement-Simple simple = ap (in_statement source) (sym (statement.rolls-Simple simple)) ∙ fold-roll-TypedStmt Walk Walk (of_statement source) (of_block source) (node.Simple simple)

  pub statement-While : (at : At) (cond : TypedExpr) (body : TypedStmt) → in_statement source (statement.While at cond body) ≡ of_statement source (node.While at cond (in_statement source body))
  statement-While at cond body = ap (in_statement source) (sym (statement.rolls-While at cond body)) ∙ fold-roll-TypedStmt Walk Walk (of_statement source) (of_block source) (node.While at cond body)

  pub statement-Do : (at : At) (body : TypedStmt) (cond : TypedExpr) → in_statement source (statement.Do at body cond) ≡ of_statement source (node.Do at (in_statement source body) cond)
  statement-Do at body cond = ap (in_statement source) (sym (statement.rolls-Do at body cond)) ∙ fold-roll-TypedStmt Walk Walk (of_statement source) (of_block source) (node.Do at body cond)

  pub statement-For : (at : At) (first : List TypedSimple) (cond : Option TypedExpr) (last : List TypedSimple) (body : TypedStmt) → in_statement source (statement.For at first cond last body) ≡ of_statement source (node.For at first cond last (in_statement source body))
  statement-For at first cond last body = ap (in_statement source) (sym (statement.rolls-For at first cond last body)) ∙ fold-roll-TypedStmt Walk Walk (of_statement source) (of_block source) (node.For at first cond last body)

  pub statement-Break : (at : At) → in_statement source (statement.Break at) ≡ of_statement source (node.Break at)
  statement-Break at = ap (in_statement source) (sym (statement.rolls-Break at)) ∙ fold-roll-TypedStmt Walk Walk (of_statement source) (of_block source) (node.Break at)

  pub statement-Continue : (at : At) → in_statement source (statement.Continue at) ≡ of_statement source (node.Continue at)
  statement-Continue at = ap (in_statement source) (sym (statement.rolls-Continue at)) ∙ fold-roll-TypedStmt Walk Walk (of_statement source) (of_block source) (node.Continue at)

  pub statement-Return : (at : At) (value : Option TypedExpr) → in_statement source (statement.Return at value) ≡ of_statement source (node.Return at value)
  statement-Return at value = ap (in_statement source) (sym (statement.rolls-Return at value)) ∙ fold-roll-TypedStmt Walk Walk (of_statement source) (of_block source) (node.Return at value)

  pub statement-Then : (at : At) (cond : TypedExpr) (this : TypedStmt) → in_statement source (statement.If at cond this None) ≡ of_statement source (node.If at cond (in_statement source this) None)
  statement-Then at cond this = ap (in_statement source) (sym (statement.rolls-If at cond this None)) ∙ fold-roll-TypedStmt Walk Walk (of_statement source) (of_block source) (node.If at cond this None)

  pub statement-Else : (at : At) (cond : TypedExpr) (this : TypedStmt) (other : TypedStmt) → in_statement source (statement.If at cond this (Some other)) ≡ of_statement source (node.If at cond (in_statement source this) (Some (in_statement source other)))
  statement-Else at cond this other = ap (in_statement source) (sym (statement.rolls-If at cond this (Some other))) ∙ fold-roll-TypedStmt Walk Walk (of_statement source) (of_block source) (node.If at cond this (Some other))

  pub block-is : (block : TypedBlock) → in_block source block ≡ of_block source (record { at = block.at; objects = block.objects; stmts = map (in_statement source) block.stmts })
  block-is block = fold_out-TypedBlock Walk Walk (of_statement source) (of_block source) block
