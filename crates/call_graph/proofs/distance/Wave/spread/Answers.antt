use Rattle.std.proofs.Common.{ap, ◌∙◌, get_or}
use Rattle.call_graph.specs.Walks.{callees}
use Rattle.call_graph.proofs.Waves.{spread-begun, spread-more, all-spread}
use Rattle.call_graph.proofs.distance.Wave.spread.Goals as goal

pub loop-function-init : goal.loop-function-init
loop-function-init c = rw c.new.ensures (spread-begun _ _ _ c.requires.none)

pub loop-function-preserved : goal.loop-function-preserved
loop-function-preserved c =
    let items = c.as_slice-function-items.ensures in
    spread-more _ _ _ _ _ _ _ c.requires.sized c.loop-function.invariant
    (rw items at c.loop-function-test.true)
    (c.callees.ensures ∙ ap (λ xs. callees c.args.graph.now (get_or xs c.loop-function.function-index 0)) items)
    c.in_ok-widen.ensures

pub returns : goal.returns
returns c = all-spread _ _ _ _ _ (rw c.as_slice-function-items.ensures at c.loop-function-test.false) c.loop-function.invariant
