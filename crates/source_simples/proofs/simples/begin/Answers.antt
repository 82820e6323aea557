use Rattle.std.proofs.Common.{ap, ◌∙◌}
use Rattle.std.specs.Prelude.{List}
use Rattle.operator_meaning.specs.declared.object.Object.{Object}
use Rattle.source_runs.specs.declared.shape.Shape.{Shape}
use Rattle.source_runs.specs.Steps.{given_to, opened}
use Rattle.source_runs.proofs.Following.{follows-changing, follows-next, follows-exit}
use Rattle.typed_meaning.specs.Statements.{start_meaning}
use Rattle.source_simples.proofs.simples.begin.Goals as goal

pub returns-in_err-given-in-Some : goal.returns-in_err-given-in-Some
unfolding start_meaning
returns-in_err-given-in-Some g c = rw c.in-Some.is (follows-exit _ _ _ _ _ _ c.from_residual.ensures.1 c.in_err-given-in-Some.ensures)

pub returns-in_ok-give-in-Some : goal.returns-in_ok-give-in-Some
unfolding start_meaning
returns-in_ok-give-in-Some g c =
    rw c.in-Some.is (follows-next _ _ c.in_ok-given-in-Some.given _ _ _ _ c.in_ok-given-in-Some.ensures
    (follows-changing _ tt _ _ (c.in_ok-give-in-Some.ensures ∙ ap (λ (s : Shape). given_to s c.in_ok-given-in-Some.given c.argument.new.state) c.shape.ensures)))

pub returns-in_ok-open-in-None : goal.returns-in_ok-open-in-None
unfolding start_meaning
returns-in_ok-open-in-None g c =
    rw c.in-None.is (follows-changing _ tt _ _ (c.in_ok-open-in-None.ensures ∙ ap (λ (objects : List Object). opened objects c.args.begun.now.object c.args.state.now) c.objects.ensures))
