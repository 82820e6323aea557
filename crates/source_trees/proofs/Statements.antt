-- The tree of each statement and of blocks: one equation for each constructor.
use Rattle.std.proofs.Common.{◌≡◌, ℕ, List, length, map, ap, sym, ◌∙◌}
use Rattle.std.specs.Prelude.{Option, Some, None, true, false}
use Rattle.sat_base.specs.declared.name.At.{At}
use Rattle.c_typed.specs.declared.expression.TypedExpr.{TypedExpr}
use Rattle.c_typed.specs.declared.simple.TypedSimple.{TypedSimple}
use Rattle.c_typed.specs.declared.statement.TypedBlock.{TypedBlock}
use Rattle.c_typed.specs.declared.statement.TypedStmt.{TypedStmt}
use Rattle.c_typed.specs.declared.statement.TypedStmt.TheOpen as node
use Rattle.c_typed.specs.declared.statement.TypedStmt.TheFolds.{fold-roll-TypedStmt, fold_out-TypedBlock}
use Rattle.c_typed.specs.declared.statement.TypedStmt.TheVariants as statement
use Rattle.ir_arena.specs.Tree as tree
use Rattle.ir_arena.specs.Tree.{trees_from}
use Rattle.source_trees.specs.Expressions.{TreeSetting, expression_tree}
use Rattle.source_trees.specs.Statements.{Numbered, trees_along, next_along, loopless, first_object, simple_tree, simples_tree, starts_in, conditions, loop_tree, if_tree, else_tree, of_statement, of_block, statement_tree, block_tree}

module _ (here : TreeSetting) where
  pub statement-Empty : (at : At) → statement_tree here (statement.Empty at) ≡ loopless tree.Empty
  unfolding of_statement
  statement-Empty at = ap (statement_tree here) (sym (statement.rolls-Empty at)) ∙ fold-roll-TypedStmt _ _ (of_statement here) (of_block here) (node.Empty at)

  pub statement-Block : (block : TypedBlock) → statement_tree here (statement.Block block) ≡ block_tree here block
  unfolding of_statement
  statement-Block block = ap (statement_tree here) (sym (statement.rolls-Block block)) ∙ fold-roll-TypedStmt _ _ (of_statement here) (of_block here) (node.Block block)

  pub statement-Simple : (simple : TypedSimple) → statement_tree here (statement.Simple simple) ≡ loopless (simple_tree here simple)
  unfolding of_statement
  statement-Simple simple = ap (statement_tree here) (sym (statement.rolls-Simple simple)) ∙ fold-roll-TypedStmt _ _ (of_statement here) (of_block here) (node.Simple simple)

  pub statement-If : (at : At) (cond : TypedExpr) (this : TypedStmt) → statement_tree here (statement.If at cond this None) ≡ if_tree here (expression_tree here cond) (statement_tree here this)
  unfolding of_statement
  statement-If at cond this = ap (statement_tree here) (sym (statement.rolls-If at cond this None)) ∙ fold-roll-TypedStmt _ _ (of_statement here) (of_block here) (node.If at cond this None)

  pub statement-Else : (at : At) (cond : TypedExpr) (this other : TypedStmt) → statement_tree here (statement.If at cond this (Some other)) ≡ else_tree here (expression_tree here cond) (statement_tree here this) (statement_tree here other)
  unfolding of_statement
  statement-Else at cond this other = ap (statement_tree here) (sym (statement.rolls-If at cond this (Some other))) ∙ fold-roll-TypedStmt _ _ (of_statement here) (of_block here) (node.If at cond this (Some other))

  pub statement-While : (at : At) (cond : TypedExpr) (body : TypedStmt) → statement_tree here (statement.While at cond body) ≡ loop_tree here true tree.end (tree.more (expression_tree here cond) tree.end) tree.end (statement_tree here body)
  unfolding of_statement
  statement-While at cond body = ap (statement_tree here) (sym (statement.rolls-While at cond body)) ∙ fold-roll-TypedStmt _ _ (of_statement here) (of_block here) (node.While at cond body)

  pub statement-Do : (at : At) (body : TypedStmt) (cond : TypedExpr) → statement_tree here (statement.Do at body cond) ≡ loop_tree here false tree.end (tree.more (expression_tree here cond) tree.end) tree.end (statement_tree here body)
  unfolding of_statement
  statement-Do at body cond = ap (statement_tree here) (sym (statement.rolls-Do at body cond)) ∙ fold-roll-TypedStmt _ _ (of_statement here) (of_block here) (node.Do at body cond)

  pub statement-For : (at : At) (first : List TypedSimple) (cond : Option TypedExpr) (last : List TypedSimple) (body : TypedStmt) → statement_tree here (statement.For at first cond last body) ≡ loop_tree here true (simples_tree here first) (conditions here cond) (simples_tree here last) (statement_tree here body)
  unfolding of_statement
  statement-For at first cond last body = ap (statement_tree here) (sym (statement.rolls-For at first cond last body)) ∙ fold-roll-TypedStmt _ _ (of_statement here) (of_block here) (node.For at first cond last body)

  pub statement-Break : (at : At) → statement_tree here (statement.Break at) ≡ loopless (tree.Leave false)
  unfolding of_statement
  statement-Break at = ap (statement_tree here) (sym (statement.rolls-Break at)) ∙ fold-roll-TypedStmt _ _ (of_statement here) (of_block here) (node.Break at)

  pub statement-Continue : (at : At) → statement_tree here (statement.Continue at) ≡ loopless (tree.Leave true)
  unfolding of_statement
  statement-Continue at = ap (statement_tree here) (sym (statement.rolls-Continue at)) ∙ fold-roll-TypedStmt _ _ (of_statement here) (of_block here) (node.Continue at)

  pub statement-Return : (at : At) (value : Option TypedExpr) → statement_tree here (statement.Return at value) ≡ loopless (tree.Return (conditions here value))
  unfolding of_statement
  statement-Return at value = ap (statement_tree here) (sym (statement.rolls-Return at value)) ∙ fold-roll-TypedStmt _ _ (of_statement here) (of_block here) (node.Return at value)

  pub block-is : (block : TypedBlock) (next : ℕ) → block_tree here block next ≡ record { tree = tree.Block (first_object block.objects) (length block.objects) (trees_from (starts_in here block.objects)) (trees_from (trees_along (map (statement_tree here) block.stmts) next)); next = next_along (map (statement_tree here) block.stmts) next }
  unfolding of_block
  block-is block next = ap (λ (f : ℕ → Numbered). f next) (fold_out-TypedBlock _ _ (of_statement here) (of_block here) block)

pub ruleset statement_trees = (statement-Empty, statement-Block, statement-Simple, statement-If, statement-Else, statement-While, statement-Do, statement-For, statement-Break, statement-Continue, statement-Return, block-is)
