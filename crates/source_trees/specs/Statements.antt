-- The tree of each statement and block, by cases on them: one node for each. Loops are numbered in the order of
-- their keywords, so the tree of a statement depends on the number that its first loop has.
use Rattle.std.specs.Prelude.{ℕ, ◌+◌, List, [], ◌∷◌, map, length, Bool, true, false, Option, Some, None}
use Rattle.sat_base.specs.declared.width.Width.{Width}
use Rattle.c_tree.specs.declared.simple.AssignMark.{AssignMark}
use Rattle.c_typed.specs.declared.expression.TypedExpr.{TypedExpr}
use Rattle.c_typed.specs.declared.simple.TypedSimple.{TypedSimple}
use Rattle.c_typed.specs.declared.simple.TypedSimple.TheVariants.{Assign, Step, SetOverflow, Call}
use Rattle.c_typed.specs.declared.statement.Start.{Start}
use Rattle.c_typed.specs.declared.statement.TypedBlock.{TypedBlock}
use Rattle.c_typed.specs.declared.statement.TypedStmt.{TypedStmt}
use Rattle.c_typed.specs.declared.statement.TypedStmt.TheOpen as node
use Rattle.c_typed.specs.declared.statement.TypedStmt.TheFolds.{fold-TypedStmt, fold-TypedBlock}
use Rattle.source_runs.specs.declared.location.Access.TheVariants as access
use Rattle.source_runs.specs.Shapes.{shape_of}
use Rattle.typed_meaning.specs.Expressions.{site_at}
use Rattle.typed_meaning.specs.Statements.{option_of}
use Rattle.ir_arena.specs.Tree as tree
use Rattle.ir_arena.specs.Tree.{IrTree, IrTarget, IrTrees, trees_from, at_most}
use Rattle.source_trees.specs.Expressions.{TreeSetting, place_tree, expression_tree, argument_tree, call_tree}

-- ---- loops by their numbers

-- a tree, and the number of the next loop after it
pub record Numbered : Type 0 where
  pub tree : IrTree
  pub next : ℕ

abbrev pub Numbering : Type 0
Numbering = ℕ → Numbered

-- without a loop
abbrev pub loopless : IrTree → Numbering
loopless tree next = record { tree = tree; next = next }

-- the trees of several, one after the other, and the number of the next loop after them
abbrev pub trees_along : List Numbering → ℕ → List IrTree
trees_along [] next = []
trees_along (first ∷ rest) next = (first next).tree ∷ trees_along rest (first next).next

abbrev pub next_along : List Numbering → ℕ → ℕ
next_along [] next = next
next_along (first ∷ rest) next = next_along rest (first next).next

-- ---- what declares and changes

-- the object that a place names
abbrev pub object_in : IrTarget → ℕ
object_in (tree.Variable object) = object
object_in (tree.Element object index) = object
object_in (tree.ThroughView view index) = view

-- the width of what is written
abbrev pub width_in : TreeSetting → IrTarget → Width
width_in here target = (shape_of here.objects (object_in target)).width

-- the number of the first of the objects of a block, which follow one another
abbrev pub first_object : List Start → ℕ
first_object [] = 0
first_object (start ∷ starts) = start.object

abbrev pub started : ℕ → Option IrTree → List IrTree → List IrTree
started object None rest = rest
started object (Some value) rest = tree.Start object value ∷ rest

module _ (here : TreeSetting) where
  abbrev pub written : IrTarget → AssignMark → Option ℕ → IrTree → IrTree
  written target mark site value = tree.Write target mark (width_in here target) site value

  abbrev pub stepped : IrTarget → Bool → ℕ → IrTree
  stepped target up site = tree.Step target up (width_in here target) site

  abbrev pub simple_tree : TypedSimple → IrTree
  simple_tree (Assign at place mark mark_at site value) = written (place_tree here place access.Element) mark site (expression_tree here value)
  simple_tree (Step at place up mark_at site) = stepped (place_tree here place access.Element) up (site_at site)
  simple_tree (SetOverflow at value) = tree.WriteFlag (expression_tree here value)
  simple_tree (Call call) = call_tree here call

  abbrev pub simples_tree : List TypedSimple → IrTrees
  simples_tree simples = trees_from (map simple_tree simples)

  -- an object that has a value to start with has a node
  abbrev pub starts_in : List Start → List IrTree
  starts_in [] = []
  starts_in (start ∷ starts) = started start.object (option_of (argument_tree here) start.value) (starts_in starts)

  abbrev pub if_tree : IrTree → Numbering → Numbering
  if_tree cond this next = record { tree = tree.If cond (this next).tree tree.end; next = (this next).next }

  abbrev pub else_tree : IrTree → Numbering → Numbering → Numbering
  else_tree cond this other next =
      record { tree = tree.If cond (this next).tree (tree.more (other (this next).next).tree tree.end); next = (other (this next).next).next }

  abbrev pub branches : IrTree → Numbering → Option Numbering → Numbering
  branches cond this None = if_tree cond this
  branches cond this (Some other) = else_tree cond this other

  -- a loop has its number before those in it
  abbrev pub loop_tree : Bool → IrTrees → IrTrees → IrTrees → Numbering → Numbering
  loop_tree tests_first first cond last body cut =
      record { tree = tree.Loop cut tests_first first cond last (body (cut + 1)).tree; next = (body (cut + 1)).next }

  abbrev pub conditions : Option TypedExpr → IrTrees
  conditions cond = at_most (option_of (expression_tree here) cond)

  unfoldable pub of_statement : node.TypedStmt-F Numbering Numbering → Numbering
  of_statement (node.Empty at) = loopless tree.Empty
  of_statement (node.Block block) = block
  of_statement (node.Simple simple) = loopless (simple_tree simple)
  of_statement (node.If at cond this other) = branches (expression_tree here cond) this other
  of_statement (node.While at cond body) = loop_tree true tree.end (tree.more (expression_tree here cond) tree.end) tree.end body
  of_statement (node.Do at body cond) = loop_tree false tree.end (tree.more (expression_tree here cond) tree.end) tree.end body
  of_statement (node.For at first cond last body) =
      loop_tree true (simples_tree first) (conditions cond) (simples_tree last) body
  of_statement (node.Break at) = loopless (tree.Leave false)
  of_statement (node.Continue at) = loopless (tree.Leave true)
  of_statement (node.Return at value) = loopless (tree.Return (conditions value))

  unfoldable pub of_block : node.TypedBlock-F Numbering Numbering → Numbering
  of_block block next =
      record {
        tree = tree.Block (first_object block.objects) (length block.objects) (trees_from (starts_in block.objects)) (trees_from (trees_along block.stmts next));
        next = next_along block.stmts next;
      }

  abbrev pub statement_tree : TypedStmt → Numbering
  statement_tree = fold-TypedStmt Numbering Numbering of_statement of_block

  abbrev pub block_tree : TypedBlock → Numbering
  block_tree = fold-TypedBlock Numbering Numbering of_statement of_block
