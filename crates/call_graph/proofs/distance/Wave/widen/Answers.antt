use Rattle.std.specs.Prelude.{Some, None}
use Rattle.call_graph.proofs.Places.{read-at, read-past}
use Rattle.call_graph.proofs.Waves.{widen-begun, widen-past, widen-placed, all-widened}
use Rattle.call_graph.proofs.distance.Wave.widen.Goals as goal
use Rattle.call_graph.proofs.distance.Wave.widen.Goals.{in-Some-None+in_ok-push-in-Some-None, in-Some-Some, in-None}

pub loop-callee-init : goal.loop-callee-init
loop-callee-init c = widen-begun _ _ _ c.requires

pub loop-callee-preserved : goal.loop-callee-preserved
loop-callee-preserved c =
    let widens = c.loop-callee.invariant in
    elim c.match-get.branch [
      | in-Some-None+in_ok-push-in-Some-None w ↦
          let at = read-at None c.loop-callee.self.distances _ None (rw w.in-Some-None.field-0-is at w.in-Some-None.ensures.value) in
          rw (w.self-is, w.set.ensures, w.in_ok-push-in-Some-None.ensures.ok) (widen-placed _ _ _ _ _ widens c.loop-callee-test.true at.0 at.1)
      | in-Some-Some w ↦
          let at = read-at None c.loop-callee.self.distances _ (Some _) (rw w.in-Some-Some.field-0-is at w.in-Some-Some.ensures.value) in
          rw w.self-is (widen-past _ _ _ _ _ widens (λ own. (_, at.0)))
      | in-None w ↦ rw w.self-is (widen-past _ _ _ _ _ widens (λ own. absurd (read-past None c.loop-callee.self.distances _ w.in-None.ensures.value (rw widens.sized own))))
    ]

pub returns : goal.returns
returns c = all-widened _ _ _ _ _ c.loop-callee-test.false c.loop-callee.invariant
