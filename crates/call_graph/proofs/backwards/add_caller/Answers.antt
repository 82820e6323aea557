use Rattle.std.proofs.Common.{arith}
use Rattle.call_graph.proofs.Reversal.{add-begun, add-past, add-connected, all-added}
use Rattle.call_graph.proofs.backwards.add_caller.Goals as goal
use Rattle.call_graph.proofs.backwards.add_caller.Goals.{then-callee-len+in_ok-connect, else-callee-len}

pub loop-callee-init : goal.loop-callee-init
loop-callee-init c = add-begun _ _ _

pub loop-callee-preserved : goal.loop-callee-preserved
loop-callee-preserved c =
    let adds = c.loop-callee.invariant in
    elim c.if-callee-len.branch [
      | then-callee-len+in_ok-connect w ↦ rw (w.back-is, w.in_ok-connect.ensures) (add-connected _ _ _ _ _ adds c.loop-callee-test.true (omega (arith, w.if-callee-len.true, c.len.ensures)))
      | else-callee-len w ↦ rw w.back-is (add-past _ _ _ _ _ adds (omega (arith, w.if-callee-len.false, c.len.ensures, adds.sized)))
    ]

pub returns : goal.returns
returns c = all-added _ _ _ _ _ c.loop-callee-test.false c.loop-callee.invariant
