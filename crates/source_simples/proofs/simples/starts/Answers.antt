use Rattle.std.proofs.Common.{refl, ◌∙◌, map, arith}
use Rattle.std.proofs.lemmas.List.{at_drop_all}
use Rattle.source_runs.specs.Runs.{all_of}
use Rattle.source_runs.proofs.Following.{follows-gives, follows-and, follows-and_exit, follows-as}
use Rattle.source_runs.proofs.Turning.{all_of-end}
use Rattle.source_expressions.specs.Does.{start_at}
use Rattle.source_simples.proofs.Listing.{all_of_step}
use Rattle.source_simples.proofs.simples.starts.Goals as goal

pub returns-in_err-begin : goal.returns-in_err-begin
returns-in_err-begin g c =
    c.loop-object.invariant _ _ (follows-as _ _ _ _ _ (all_of_step (start_at c.args.here.now) c.args.list.now c.loop-object.object-index c.object-item.result c.loop-object-test.true c.object-item.is)
    (follows-and_exit _ _ _ _ _ _ c.from_residual.ensures.1 c.in_err-begin.ensures))

pub loop-object-preserved : goal.loop-object-preserved
loop-object-preserved g c = λ r after rest.
    c.loop-object.invariant r after (follows-as _ _ _ _ _ (all_of_step (start_at c.args.here.now) c.args.list.now c.loop-object.object-index c.object-item.result c.loop-object-test.true c.object-item.is)
    (follows-and _ _ c.in_ok-begin.field-0 _ _ _ _ c.in_ok-begin.ensures rest))

pub returns : goal.returns
returns g c =
    c.loop-object.invariant _ _ (follows-as _ _ _ _ _ (at_drop_all (λ list. all_of (map (start_at c.args.here.now) list)) c.args.list.now c.loop-object.object-index (omega arith) ∙ all_of-end)
    (follows-gives _ _ _ _ refl refl))
