use Rattle.std.proofs.Common.{◌<◌, length, arith, slice_index_or}
use Rattle.call_graph.specs.declared.search.Mark.TheVariants.{New, Open, Done}
use Rattle.call_graph.proofs.Places.{read-at, read-past}
use Rattle.call_graph.proofs.Visiting.{begun, reach-next, next-done, next-visited, ended}
use Rattle.call_graph.proofs.search.Search.+visit.Goals as goal
use Rattle.call_graph.proofs.search.Search.+visit.Goals.{in-Some-New+in_ok-visit-in-Some-New, in-Some-Done, in-None}

pub loop-callee-init : goal.loop-callee-init
loop-callee-init t c =
    rw c.set.ensures (begun c.args.graph.now c.args.function c.callees-callee-items.result.now c.args.self.now c.callees-callee-items.ensures c.requires.searched c.requires.own c.requires.new)

pub visit-requires : goal.visit-requires
visit-requires t c =
    let visiting = c.loop-callee.invariant in
    let new = read-at New c.loop-callee.self.marks _ New (rw c.in-Some-New.field-0-is at c.in-Some-New.ensures.value) in
    let own : slice_index_or c.callees-callee-items.result.now c.loop-callee.callee-index 0 < length c.args.graph.now = omega (arith, new.1, visiting.searched.marked) in
    (omega (arith, c.decreases, visiting.fewer), (visiting.searched, (own, (new.0, reach-next _ _ _ _ _ _ visiting c.requires.open c.loop-callee-test.true own))))

pub returns-in-Some-Open-clause-recursion : goal.returns-in-Some-Open-clause-recursion
returns-in-Some-Open-clause-recursion t c = λ _.
    let visiting = c.loop-callee.invariant in
    let entered = read-at New c.loop-callee.self.marks _ Open (rw c.in-Some-Open.field-0-is at c.in-Some-Open.ensures.value) in
    let own : slice_index_or c.callees-callee-items.result.now c.loop-callee.callee-index 0 < length c.args.graph.now = omega (arith, entered.1, visiting.searched.marked) in
    (_, reach-next _ _ _ _ _ _ visiting c.requires.open c.loop-callee-test.true own _ entered.0)

pub loop-callee-preserved : goal.loop-callee-preserved
loop-callee-preserved t c =
    let visiting = c.loop-callee.invariant in
    elim c.match-get.branch [
      | in-Some-New+in_ok-visit-in-Some-New w ↦ rw w.self-is (next-visited _ _ _ _ _ _ visiting w.visit.new.self (w.in_ok-visit-in-Some-New.ensures.visits))
      | in-Some-Done w ↦ rw w.self-is (next-done _ _ _ _ _ _ visiting (λ _. (read-at New c.loop-callee.self.marks _ Done (rw w.in-Some-Done.field-0-is at w.in-Some-Done.ensures.value)).0))
      | in-None w ↦ rw w.self-is (next-done _ _ _ _ _ _ visiting (λ own. absurd (read-past New c.loop-callee.self.marks _ w.in-None.ensures.value (rw visiting.searched.marked own))))
    ]

pub returns-in-Ok-clause-visits : goal.returns-in-Ok-clause-visits
returns-in-Ok-clause-visits t c = rw (c.set-2.ensures, c.in-Ok.ensures.ok) (ended _ _ _ _ _ _ c.requires.own c.requires.new c.loop-callee-test.false c.loop-callee.invariant)
