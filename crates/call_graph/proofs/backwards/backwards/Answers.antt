use Rattle.std.proofs.Common.{arith, ◌∙◌, ap, replicate, []}
use Rattle.call_graph.proofs.Reversal.{none-backwards, more-backwards, all-backwards}
use Rattle.call_graph.proofs.backwards.backwards.Goals as goal

pub loop-caller-init : goal.loop-caller-init
loop-caller-init c = none-backwards _ _ (c.in_ok-back.ensures ∙ ap (λ n. replicate n []) c.len.ensures)

pub loop-caller-preserved : goal.loop-caller-preserved
loop-caller-preserved c = more-backwards _ _ _ _ _ c.callees.ensures c.loop-caller.invariant c.in_ok-add_caller.ensures

pub returns : goal.returns
returns c = all-backwards _ _ _ (omega (arith, c.loop-caller-test.false, c.len-caller-end.ensures)) c.loop-caller.invariant
