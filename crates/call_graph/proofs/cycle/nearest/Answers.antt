use Rattle.std.proofs.Common.{◌≡◌, get_or}
use Rattle.std.specs.Prelude.{Some}
use Rattle.call_graph.specs.Distances.{distance_in}
use Rattle.call_graph.proofs.Nearest.{nearest-not, nearest-least, nearest-all}
use Rattle.call_graph.proofs.cycle.nearest.Goals as goal
use Rattle.call_graph.proofs.cycle.nearest.Goals.{then-lies_at, else-lies_at}

pub loop-callee-preserved : goal.loop-callee-preserved
loop-callee-preserved c =
    elim c.if-lies_at.branch [
      | then-lies_at w ↦ rw w.first-is (nearest-least c.args.called.now c.loop-callee.callee-index c.args.distances.now c.args.distance c.loop-callee.first _ c.loop-callee-test.true c.loop-callee.invariant (c.lies_at.ensures.0 w.if-lies_at.true) w.least.ensures)
      | else-lies_at w ↦
          let apart : distance_in c.args.distances.now (get_or c.args.called.now c.loop-callee.callee-index 0) ≡ Some c.args.distance → ⊥ = λ near. let lies = c.lies_at.ensures.1 near in let other = w.if-lies_at.false in cc in
          rw w.first-is (nearest-not c.args.called.now c.loop-callee.callee-index c.args.distances.now c.args.distance c.loop-callee.first c.loop-callee.invariant apart)
    ]

pub returns : goal.returns
returns c = nearest-all c.args.called.now _ c.args.distances.now c.args.distance _ c.loop-callee-test.false c.loop-callee.invariant
