use Rattle.call_graph.specs.Cycles.{IsNearest}
use Rattle.call_graph.proofs.cycle.nearest.Given as goal

abbrev pub invariant-loop-callee : goal.invariant-loop-callee
invariant-loop-callee l = IsNearest l.called l.callee-index l.distances l.distance l.first
