-- The tree that a node in the arena is.
use Rattle.std.specs.Prelude.{Option, Some, None, List, map}
use Rattle.std.specs.Borrow.{Bor}
use Rattle.ir_arena.specs.declared.ir.Ir.{Ir}
use Rattle.ir_arena.specs.declared.ir.IrFunction.{IrFunction}
use Rattle.ir_arena.specs.declared.node.Node.{Node}
use Rattle.ir_arena.specs.declared.node.Node.TheOpen as node
use Rattle.ir_arena.specs.declared.node.Node.TheFolds.{fold-Node, fold-Target}
use Rattle.ir_arena.specs.declared.target.Target.{Target}
use Rattle.ir_arena.specs.Tree as tree
use Rattle.ir_arena.specs.Tree.{IrTree, IrTarget, IrTrees, trees_from, at_most, TreeFunction, IrWhole}

-- what is placed, where something is
abbrev pub now_of : {A : Type 0} → Option (Bor A) → Option A
now_of None = None
now_of (Some part) = Some part.now

unfoldable pub of_node : node.Node-F IrTree IrTarget → IrTree
of_node (node.Constant value) = tree.Constant value
of_node (node.Read target) = tree.Read target
of_node (node.Address target) = tree.Address target
of_node (node.Operate site kind operands weight) = tree.Operate site kind (trees_from operands.now) weight
of_node (node.Convert cast width part) = tree.Convert cast width part.now
of_node (node.Not part) = tree.Not part.now
of_node (node.Invert part) = tree.Invert part.now
of_node (node.Binary mark left right) = tree.Binary mark left.now right.now
of_node (node.Choose cond this other) = tree.Choose cond.now this.now other.now
of_node (node.Call function args) = tree.Call function (trees_from args.now)
of_node (node.ReadFlag pos) = tree.ReadFlag pos
of_node node.Left = tree.Left
of_node (node.Write target mark width site value) = tree.Write target mark width site value.now
of_node (node.Step target up width site) = tree.Step target up width site
of_node (node.WriteFlag value) = tree.WriteFlag value.now
of_node (node.Out value) = tree.Out value.now
of_node (node.AddCount weight) = tree.AddCount weight
of_node (node.Start object value) = tree.Start object value.now
of_node node.Empty = tree.Empty
of_node (node.Block first objects starts parts) = tree.Block first objects (trees_from starts.now) (trees_from parts.now)
of_node (node.If cond this other) = tree.If cond.now this.now (at_most (now_of other))
of_node (node.Loop cut tests_first first cond last body) = tree.Loop cut tests_first (trees_from first.now) (at_most (now_of cond)) (trees_from last.now) body.now
of_node (node.Leave again) = tree.Leave again
of_node (node.Return value) = tree.Return (at_most (now_of value))

unfoldable pub of_target : node.Target-F IrTree IrTarget → IrTarget
of_target (node.Variable object) = tree.Variable object
of_target (node.Element object index) = tree.Element object (trees_from index.now)
of_target (node.ThroughView view index) = tree.ThroughView view (trees_from index.now)

abbrev pub tree_of : Node → IrTree
tree_of = fold-Node IrTree IrTarget of_node of_target

abbrev pub target_of : Target → IrTarget
target_of = fold-Target IrTree IrTarget of_node of_target

-- the row that several nodes are
abbrev pub trees_at : List Node → IrTrees
trees_at nodes = trees_from (map tree_of nodes)

-- the row that one node is, or none where it is missing
abbrev pub trees_where : Option (Bor Node) → IrTrees
trees_where None = tree.end
trees_where (Some node) = tree.more (tree_of node.now) tree.end

-- ---- the whole

abbrev pub function_of : IrFunction → TreeFunction
function_of function = record { gives = function.gives; params = function.params; body = tree_of function.body.now }

abbrev pub whole_of : Ir → IrWhole
whole_of ir = record { functions = map function_of ir.functions; main = ir.main; objects = ir.objects; sites = ir.sites }
