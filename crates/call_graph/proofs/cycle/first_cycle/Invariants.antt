use Rattle.std.proofs.Common.{ℕ, ◌<◌}
use Rattle.call_graph.specs.Walks.{Reaches}
use Rattle.call_graph.proofs.cycle.first_cycle.Given as goal

abbrev pub invariant-loop-start : goal.invariant-loop-start
invariant-loop-start l = (f : ℕ) → f < l.start → Reaches l.graph f f → ⊥
