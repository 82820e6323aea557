use Rattle.std.proofs.Common.{◌≡◌, replicate, []}
use Rattle.call_graph.proofs.backwards.without_calls.Given as goal

abbrev pub invariant-loop : goal.invariant-loop
invariant-loop l = l.graph ≡ replicate l.counter []
