use Rattle.call_graph.specs.Backwards.{AddsCaller}
use Rattle.call_graph.proofs.backwards.add_caller.Given as goal

abbrev pub invariant-loop-callee : goal.invariant-loop-callee
invariant-loop-callee l = AddsCaller l.caller l.called l.callee-index l.fn.back l.back
