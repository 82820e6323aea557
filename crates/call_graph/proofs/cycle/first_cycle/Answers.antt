use Rattle.std.proofs.Common.{arith, below_more, sym}
use Rattle.call_graph.proofs.Descents.{distances-to, first-found, none-recursive}
use Rattle.call_graph.proofs.cycle.first_cycle.Goals as goal

pub cycle_from-requires : goal.cycle_from-requires
cycle_from-requires c = record { distances = distances-to _ _ _ _ c.in_ok-back.ensures c.in_ok-distances.ensures; itself = sym c.in-Some.ensures }

pub loop-start-preserved : goal.loop-start-preserved
loop-start-preserved c = below_more _ _ c.loop-start.invariant ((distances-to _ _ _ _ c.in_ok-back.ensures c.in_ok-distances.ensures).others _ (sym c.in-None.ensures))

pub returns : goal.returns
returns c = λ recursive. none-recursive _ _ (omega (arith, c.loop-start-test.false, c.len-start-end.ensures)) c.loop-start.invariant recursive.0 recursive.1

pub returns-in-Some : goal.returns-in-Some
returns-in-Some c =
    let distances = distances-to _ _ _ _ c.in_ok-back.ensures c.in_ok-distances.ensures in
    first-found _ _ _ _ (distances.reached _ _ (sym c.in-Some.ensures)) c.loop-start.invariant c.in_ok-cycle-in-Some.ensures
