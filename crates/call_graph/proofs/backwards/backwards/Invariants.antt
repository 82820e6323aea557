use Rattle.call_graph.proofs.Reversal.{AreBackwards}
use Rattle.call_graph.proofs.backwards.backwards.Given as goal

abbrev pub invariant-loop-caller : goal.invariant-loop-caller
invariant-loop-caller l = AreBackwards l.graph l.caller l.back
