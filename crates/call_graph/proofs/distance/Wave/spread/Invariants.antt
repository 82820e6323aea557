use Rattle.call_graph.specs.Waves.{Spreads}
use Rattle.call_graph.proofs.distance.Wave.spread.Given as goal

abbrev pub invariant-loop-function : goal.invariant-loop-function
invariant-loop-function l = Spreads l.graph l.function-index l.distance l.fn.self l.next
