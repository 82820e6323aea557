use Rattle.std.proofs.Common.{◌≡◌, ◌++◌, map, drop}
use Rattle.ir_arena.specs.Placed.{tree_of}
use Rattle.source_trees.specs.Statements.{simple_tree}
use Rattle.ir_expressions.specs.Building.{setting}
use Rattle.ir_statements.proofs.simples.simples.Given as goal

abbrev pub invariant-loop-each : goal.invariant-loop-each
invariant-loop-each l =
    map tree_of l.nodes ++ map (simple_tree (setting l.build)) (drop l.each-index l.simples) ≡ map (simple_tree (setting l.build)) l.simples
