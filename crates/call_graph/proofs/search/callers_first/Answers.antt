use Rattle.std.proofs.Common.{arith}
use Rattle.call_graph.proofs.Searching.{list-more, ordered}
use Rattle.call_graph.proofs.search.callers_first.Goals as goal

pub loop-function-init : goal.loop-function-init
loop-function-init c = record { idle = c.in_ok-search.ensures; done = λ f less. absurd (omega (arith, less)) }

pub loop-function-preserved : goal.loop-function-preserved
loop-function-preserved c = list-more _ _ _ _ c.loop-function.invariant c.in_ok-list.ensures.lists

pub returns-clause-order : goal.returns-clause-order
returns-clause-order c =
    let listed = c.loop-function.invariant in
    rw c.in_ok-reversed.ensures (ordered _ _ listed.idle (λ f own. listed.done f (omega (arith, own, c.loop-function-test.false, c.len-function-end.ensures))))
