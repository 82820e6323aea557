-- Nodes as trees.
use Rattle.std.specs.Prelude.{Option, Some, None}
use Rattle.ir_arena.specs.declared.node.Node.{Node}
use Rattle.ir_arena.specs.Placed.{tree_of}
use Rattle.ir_arena.specs.Tree.{IrTrees, end, more}

-- a node that may be missing, as a row of none or one
abbrev pub tree_where : Option Node → IrTrees
tree_where None = end
tree_where (Some node) = more (tree_of node) end
