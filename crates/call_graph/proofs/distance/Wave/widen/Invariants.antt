use Rattle.call_graph.specs.Waves.{Widens}
use Rattle.call_graph.proofs.distance.Wave.widen.Given as goal

abbrev pub invariant-loop-callee : goal.invariant-loop-callee
invariant-loop-callee l = Widens l.called l.callee-index l.distance l.fn.self l.self
