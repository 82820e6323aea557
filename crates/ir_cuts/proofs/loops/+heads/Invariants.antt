use Rattle.std.proofs.Common.{◌≡◌, ◌++◌, drop}
use Rattle.ir_arena.specs.Placed.{trees_at}
use Rattle.ir_cuts.specs.Cuts.{heads_in}
use Rattle.ir_cuts.proofs.loops.+heads.Given as goal

abbrev pub invariant-heads_in-loop-node : goal.invariant-heads_in-loop-node
invariant-heads_in-loop-node l =
    l.cuts ++ heads_in l.scope.objects.now l.scope.function l.variables (trees_at (drop l.node-index l.nodes))
    ≡ l.fn.cuts ++ heads_in l.scope.objects.now l.scope.function l.variables (trees_at l.nodes)
