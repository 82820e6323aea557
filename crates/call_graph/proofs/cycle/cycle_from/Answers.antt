use Rattle.std.proofs.Common.{arith, ◌-◌, suc, ◌≡◌}
use Rattle.call_graph.proofs.Descents.{continues-begun, continues-ended, way-nearer, way-some}
use Rattle.call_graph.proofs.cycle.cycle_from.Goals as goal

pub steps-init : goal.steps-init
steps-init c = rw c.in_ok-cycle.ensures (record { distance = c.requires.distances.reached _ _ c.requires.itself; continues = continues-begun _ _ _ })

pub steps-preserved : goal.steps-preserved
steps-preserved c =
    let two : c.steps.left ≡ suc (suc (c.steps.left - 2)) = omega (arith, c.steps-test.true) in
    let one : c.steps.left - 1 ≡ suc (c.steps.left - 2) = omega (arith, c.steps-test.true) in
    rw c.in_ok-push-in-Some.ensures.ok (way-nearer _ _ _ _ _ _ _ _ _ _ two one c.requires.distances c.callees.ensures c.steps.invariant _ c.in-Some.ensures)

pub unreachable-requires : goal.unreachable-requires
unreachable-requires c =
    let two : c.steps.left ≡ suc (suc (c.steps.left - 2)) = omega (arith, c.steps-test.true) in
    let one : c.steps.left - 1 ≡ suc (c.steps.left - 2) = omega (arith, c.steps-test.true) in
    way-some _ _ _ _ _ _ _ _ _ _ two one c.requires.distances c.callees.ensures c.steps.invariant c.in-None.ensures

pub returns : goal.returns
returns c = rw c.in_ok-push.ensures.ok (continues-ended _ _ _ _ _ _ c.steps-test.false c.steps.invariant.distance c.steps.invariant.continues)
