use Rattle.call_graph.specs.Search.{new_functions}
use Rattle.call_graph.proofs.Visiting.{IsVisiting}
use Rattle.call_graph.proofs.search.Search.+visit.Given as goal

abbrev pub decreases-visit : goal.decreases-visit
decreases-visit l = new_functions l.self.now

abbrev pub invariant-loop-callee : goal.invariant-loop-callee
invariant-loop-callee l = IsVisiting l.graph l.function l.callee-items l.callee-index l.fn.self l.self
