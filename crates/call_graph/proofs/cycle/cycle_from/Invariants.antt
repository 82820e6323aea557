use Rattle.std.proofs.Common.{◌-◌}
use Rattle.call_graph.proofs.Descents.{IsOnWay}
use Rattle.call_graph.proofs.cycle.cycle_from.Given as goal

abbrev pub invariant-steps : goal.invariant-steps
invariant-steps l = IsOnWay l.graph l.start l.length l.left l.function l.cycle

abbrev pub decreases-steps : goal.decreases-steps
decreases-steps l = l.left - 1
