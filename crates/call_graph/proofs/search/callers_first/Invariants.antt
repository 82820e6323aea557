use Rattle.call_graph.proofs.Searching.{AreListed}
use Rattle.call_graph.proofs.search.callers_first.Given as goal

abbrev pub invariant-loop-function : goal.invariant-loop-function
invariant-loop-function l = AreListed l.graph l.search l.function
