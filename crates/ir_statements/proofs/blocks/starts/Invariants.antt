use Rattle.std.proofs.Common.{◌≡◌, ◌++◌, map, drop}
use Rattle.ir_arena.specs.Placed.{tree_of}
use Rattle.source_trees.specs.Statements.{starts_in}
use Rattle.ir_expressions.specs.Building.{setting}
use Rattle.ir_statements.proofs.blocks.starts.Given as goal

abbrev pub invariant-loop-start : goal.invariant-loop-start
invariant-loop-start l =
    map tree_of l.nodes ++ starts_in (setting l.build) (drop l.start-index l.objects) ≡ starts_in (setting l.build) l.objects
