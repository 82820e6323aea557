use Rattle.std.proofs.Common.{refl, ◌∙◌, map, arith}
use Rattle.std.proofs.lemmas.List.{at_drop_all}
use Rattle.source_runs.specs.Runs.{all_of}
use Rattle.source_runs.proofs.Following.{follows-gives, follows-and, follows-and_exit, follows-as}
use Rattle.source_runs.proofs.Turning.{all_of-end}
use Rattle.source_expressions.specs.Does.{simple_at}
use Rattle.source_simples.proofs.Listing.{all_of_step}
use Rattle.source_simples.proofs.simples.all_simples.Goals as goal

pub returns-in_err-simple : goal.returns-in_err-simple
returns-in_err-simple g c =
    c.loop-done.invariant _ _ (follows-as _ _ _ _ _ (all_of_step (simple_at c.args.here.now) c.args.list.now c.loop-done.done-index c.done-item.result c.loop-done-test.true c.done-item.is)
    (follows-and_exit _ _ _ _ _ _ c.from_residual.ensures.1 c.in_err-simple.ensures))

pub loop-done-preserved : goal.loop-done-preserved
loop-done-preserved g c = λ r after rest.
    c.loop-done.invariant r after (follows-as _ _ _ _ _ (all_of_step (simple_at c.args.here.now) c.args.list.now c.loop-done.done-index c.done-item.result c.loop-done-test.true c.done-item.is)
    (follows-and _ _ c.in_ok-simple.field-0 _ _ _ _ c.in_ok-simple.ensures rest))

pub returns : goal.returns
returns g c =
    c.loop-done.invariant _ _ (follows-as _ _ _ _ _ (at_drop_all (λ list. all_of (map (simple_at c.args.here.now) list)) c.args.list.now c.loop-done.done-index (omega arith) ∙ all_of-end)
    (follows-gives _ _ _ _ refl refl))
