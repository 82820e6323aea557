use Rattle.std.proofs.Common.{◌≡◌, ◌++◌, map, drop}
use Rattle.ir_arena.specs.Placed.{tree_of}
use Rattle.source_trees.specs.Expressions.{argument_tree}
use Rattle.ir_expressions.specs.Building.{setting}
use Rattle.ir_expressions.proofs.build.Build.+expression.Given as goal

abbrev pub invariant-arguments-loop-arg : goal.invariant-arguments-loop-arg
invariant-arguments-loop-arg l =
    map tree_of l.nodes ++ map (argument_tree (setting l.self)) (drop l.arg-index l.args) ≡ map (argument_tree (setting l.self)) l.args
