-- What the meaning says of each statement and of blocks: one equation for each constructor.
use Rattle.std.proofs.Common.{◌≡◌, List, map, ap, sym, ◌∙◌}
use Rattle.std.specs.Prelude.{Option, Some, None}
use Rattle.sat_base.specs.declared.name.At.{At}
use Rattle.c_typed.specs.declared.expression.TypedExpr.{TypedExpr}
use Rattle.c_typed.specs.declared.simple.TypedSimple.{TypedSimple}
use Rattle.c_typed.specs.declared.statement.TypedBlock.{TypedBlock}
use Rattle.c_typed.specs.declared.statement.TypedStmt.{TypedStmt}
use Rattle.c_typed.specs.declared.statement.TypedStmt.TheOpen as node
use Rattle.c_typed.specs.declared.statement.TypedStmt.TheFolds.{fold-roll-TypedStmt, fold_out-TypedBlock}
use Rattle.c_typed.specs.declared.statement.TypedStmt.TheVariants as statement
use Rattle.source_runs.specs.declared.halt.Flow.TheVariants.{Normal, Break, Continue}
use Rattle.source_runs.specs.Runs.{gives, ◌>>◌, choosing, all_of}
use Rattle.source_runs.specs.Loops.{in_sequence, turns_of, looping}
use Rattle.typed_meaning.specs.Expressions.{Setting, Called, expression_meaning}
use Rattle.typed_meaning.specs.Statements.{simple_meaning, starting, of_statement, of_block, statement_meaning, block_meaning, return_meaning, condition_or_one, option_of}

module _ (here : Setting) (called : Called) where
  pub statement-Empty : (at : At) → statement_meaning here called (statement.Empty at) ≡ gives Normal
  unfolding of_statement
  statement-Empty at = ap (statement_meaning here called) (sym (statement.rolls-Empty at)) ∙ fold-roll-TypedStmt _ _ (of_statement here called) (of_block here called) (node.Empty at)

  pub statement-Block : (block : TypedBlock) → statement_meaning here called (statement.Block block) ≡ block_meaning here called block
  unfolding of_statement
  statement-Block block = ap (statement_meaning here called) (sym (statement.rolls-Block block)) ∙ fold-roll-TypedStmt _ _ (of_statement here called) (of_block here called) (node.Block block)

  pub statement-Simple : (simple : TypedSimple) → statement_meaning here called (statement.Simple simple) ≡ simple_meaning here called simple >> gives Normal
  unfolding of_statement
  statement-Simple simple = ap (statement_meaning here called) (sym (statement.rolls-Simple simple)) ∙ fold-roll-TypedStmt _ _ (of_statement here called) (of_block here called) (node.Simple simple)

  pub statement-If : (at : At) (cond : TypedExpr) (this : TypedStmt) → statement_meaning here called (statement.If at cond this None) ≡ choosing (expression_meaning here called cond) (statement_meaning here called this) (gives Normal)
  unfolding of_statement
  statement-If at cond this = ap (statement_meaning here called) (sym (statement.rolls-If at cond this None)) ∙ fold-roll-TypedStmt _ _ (of_statement here called) (of_block here called) (node.If at cond this None)

  pub statement-Else : (at : At) (cond : TypedExpr) (this other : TypedStmt) → statement_meaning here called (statement.If at cond this (Some other)) ≡ choosing (expression_meaning here called cond) (statement_meaning here called this) (statement_meaning here called other)
  unfolding of_statement
  statement-Else at cond this other = ap (statement_meaning here called) (sym (statement.rolls-If at cond this (Some other))) ∙ fold-roll-TypedStmt _ _ (of_statement here called) (of_block here called) (node.If at cond this (Some other))

  pub statement-While : (at : At) (cond : TypedExpr) (body : TypedStmt) → statement_meaning here called (statement.While at cond body) ≡ looping here.turns (expression_meaning here called cond) (gives tt) (statement_meaning here called body)
  unfolding of_statement
  statement-While at cond body = ap (statement_meaning here called) (sym (statement.rolls-While at cond body)) ∙ fold-roll-TypedStmt _ _ (of_statement here called) (of_block here called) (node.While at cond body)

  pub statement-Do : (at : At) (body : TypedStmt) (cond : TypedExpr) → statement_meaning here called (statement.Do at body cond) ≡ turns_of here.turns (expression_meaning here called cond) (gives tt) (statement_meaning here called body)
  unfolding of_statement
  statement-Do at body cond = ap (statement_meaning here called) (sym (statement.rolls-Do at body cond)) ∙ fold-roll-TypedStmt _ _ (of_statement here called) (of_block here called) (node.Do at body cond)

  pub statement-For : (at : At) (first : List TypedSimple) (cond : Option TypedExpr) (last : List TypedSimple) (body : TypedStmt) → statement_meaning here called (statement.For at first cond last body) ≡ (all_of (map (simple_meaning here called) first) >> looping here.turns (condition_or_one (option_of (expression_meaning here called) cond)) (all_of (map (simple_meaning here called) last)) (statement_meaning here called body))
  unfolding of_statement
  statement-For at first cond last body = ap (statement_meaning here called) (sym (statement.rolls-For at first cond last body)) ∙ fold-roll-TypedStmt _ _ (of_statement here called) (of_block here called) (node.For at first cond last body)

  pub statement-Break : (at : At) → statement_meaning here called (statement.Break at) ≡ gives Break
  unfolding of_statement
  statement-Break at = ap (statement_meaning here called) (sym (statement.rolls-Break at)) ∙ fold-roll-TypedStmt _ _ (of_statement here called) (of_block here called) (node.Break at)

  pub statement-Continue : (at : At) → statement_meaning here called (statement.Continue at) ≡ gives Continue
  unfolding of_statement
  statement-Continue at = ap (statement_meaning here called) (sym (statement.rolls-Continue at)) ∙ fold-roll-TypedStmt _ _ (of_statement here called) (of_block here called) (node.Continue at)

  pub statement-Return : (at : At) (value : Option TypedExpr) → statement_meaning here called (statement.Return at value) ≡ return_meaning (option_of (expression_meaning here called) value)
  unfolding of_statement
  statement-Return at value = ap (statement_meaning here called) (sym (statement.rolls-Return at value)) ∙ fold-roll-TypedStmt _ _ (of_statement here called) (of_block here called) (node.Return at value)

  pub block-is : (block : TypedBlock) → block_meaning here called block ≡ (all_of (map (starting here called) block.objects) >> in_sequence (map (statement_meaning here called) block.stmts))
  unfolding of_block
  block-is block = fold_out-TypedBlock _ _ (of_statement here called) (of_block here called) block

pub ruleset statements = (statement-Empty, statement-Block, statement-Simple, statement-If, statement-Else, statement-While, statement-Do, statement-For, statement-Break, statement-Continue, statement-Return, block-is)
