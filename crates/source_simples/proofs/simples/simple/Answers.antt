use Rattle.std.proofs.Common.{refl, ap, ◌∙◌, to_z, of_z, w32, rules}
use Rattle.std.proofs.lemmas.Int.{to_z-of_z}
use Rattle.std.specs.Prelude.{ℤ, pos}
use Rattle.source_runs.specs.declared.shape.Shape.{Shape}
use Rattle.source_runs.specs.Shapes.{shape_of}
use Rattle.source_runs.specs.State.{number_at, written, with_overflow}
use Rattle.source_runs.specs.Marks.{assigned}
use Rattle.source_runs.proofs.Following.{follows-gives, follows-reading, follows-changing, follows-next, follows-exit, follows-and, follows-and_exit, follows-at}
use Rattle.typed_meaning.specs.Statements.{assignment_meaning, simple_meaning}
use Rattle.source_simples.proofs.simples.simple.Goals as goal

pub returns-in_err-to-in-Assign : goal.returns-in_err-to-in-Assign
unfolding simple_meaning assignment_meaning
returns-in_err-to-in-Assign g c =
    rw (c.in-Assign.is, ← c.get.ensures) (follows-exit _ _ _ _ _ _ c.from_residual.ensures.1 c.in_err-to-in-Assign.ensures)

pub returns-in_err-right-in-Assign : goal.returns-in_err-right-in-Assign
unfolding simple_meaning assignment_meaning
returns-in_err-right-in-Assign g c =
    rw (c.in-Assign.is, ← c.get.ensures, ← c.get-in-Assign.ensures) (follows-next _ _ c.in_ok-to-in-Assign.to _ _ _ _ c.in_ok-to-in-Assign.ensures (follows-next _ _ (number_at c.in_ok-to-in-Assign.to c.located.new.state) _ _ _ _ (follows-reading _ _ _ _ refl refl) (follows-exit _ _ _ _ _ _ c.from_residual-in_err-right-in-Assign.ensures.1 c.in_err-right-in-Assign.ensures.follows)))

pub returns-in_err-new-in-Assign : goal.returns-in_err-new-in-Assign
unfolding simple_meaning assignment_meaning
returns-in_err-new-in-Assign g c =
    let one = follows-at (λ (o : ℤ). assigned c.in-Assign.mark c.site_at.result o (to_z w32 (of_z w32 c.in_ok-right-in-Assign.right))) _ _ _ _ _ (to_z-of_z w32 _ (search rules) ∙ c.number_at-old.ensures) (c.in_err-new-in-Assign.ensures.answers c.expression.new.state) in
    let two = follows-at (λ (x : ℤ). assigned c.in-Assign.mark c.site_at.result (number_at c.in_ok-to-in-Assign.to c.located.new.state) x) _ _ _ _ _ (to_z-of_z w32 _ c.in_ok-right-in-Assign.ensures.fits) one in
    rw (c.in-Assign.is, ← c.get.ensures, ← c.get-in-Assign.ensures, ← c.site_at.ensures) (follows-next _ _ c.in_ok-to-in-Assign.to _ _ _ _ c.in_ok-to-in-Assign.ensures (follows-next _ _ (number_at c.in_ok-to-in-Assign.to c.located.new.state) _ _ _ _ (follows-reading _ _ _ _ refl refl) (follows-next _ _ c.in_ok-right-in-Assign.right _ _ _ _ c.in_ok-right-in-Assign.ensures.follows (follows-exit _ _ _ _ _ _ c.from_residual-in_err-new-in-Assign.ensures.1 two))))

pub returns-in_ok-new-in-Assign : goal.returns-in_ok-new-in-Assign
unfolding simple_meaning assignment_meaning
returns-in_ok-new-in-Assign g c =
    let one = follows-at (λ (o : ℤ). assigned c.in-Assign.mark c.site_at.result o (to_z w32 (of_z w32 c.in_ok-right-in-Assign.right))) _ _ _ _ _ (to_z-of_z w32 _ (search rules) ∙ c.number_at-old.ensures) (c.in_ok-new-in-Assign.ensures.answers c.expression.new.state) in
    let two = follows-at (λ (x : ℤ). assigned c.in-Assign.mark c.site_at.result (number_at c.in_ok-to-in-Assign.to c.located.new.state) x) _ _ _ _ _ (to_z-of_z w32 _ c.in_ok-right-in-Assign.ensures.fits) one in
    rw (c.in-Assign.is, ← c.get.ensures, ← c.get-in-Assign.ensures, ← c.site_at.ensures) (follows-next _ _ c.in_ok-to-in-Assign.to _ _ _ _ c.in_ok-to-in-Assign.ensures (follows-next _ _ (number_at c.in_ok-to-in-Assign.to c.located.new.state) _ _ _ _ (follows-reading _ _ _ _ refl refl) (follows-next _ _ c.in_ok-right-in-Assign.right _ _ _ _ c.in_ok-right-in-Assign.ensures.follows (follows-next _ _ c.in_ok-new-in-Assign.new _ _ _ _ two (follows-changing _ tt _ _ (c.write.ensures ∙ ap (λ (s : Shape). written s.width c.in_ok-to-in-Assign.to (to_z w32 (of_z w32 c.in_ok-new-in-Assign.new)) c.expression.new.state) c.shape.ensures ∙ ap (λ (v : ℤ). written (shape_of c.args.here.now.typed.now.objects c.in_ok-to-in-Assign.to.object).width c.in_ok-to-in-Assign.to v c.expression.new.state) (to_z-of_z w32 _ c.in_ok-new-in-Assign.ensures.fits)))))))

pub returns-in_err-to-in-Step : goal.returns-in_err-to-in-Step
unfolding simple_meaning assignment_meaning
returns-in_err-to-in-Step g c =
    rw (c.in-Step.is, ← c.get-in-Step.ensures) (follows-exit _ _ _ _ _ _ c.from_residual-in_err-to-in-Step.ensures.1 c.in_err-to-in-Step.ensures)

pub returns-in_err-new-in-Step : goal.returns-in_err-new-in-Step
unfolding simple_meaning assignment_meaning
returns-in_err-new-in-Step g c =
    let one = follows-at (λ (o : ℤ). assigned c.step_mark.result c.site_at-in-Step.result o (pos 1)) _ _ _ _ _ (to_z-of_z w32 _ (search rules) ∙ c.number_at-old-in-Step.ensures) (c.in_err-new-in-Step.ensures.answers c.located-in-Step.new.state) in
    rw (c.in-Step.is, ← c.get-in-Step.ensures, ← c.site_at-in-Step.ensures, ← c.step_mark.ensures) (follows-next _ _ c.in_ok-to-in-Step.to _ _ _ _ c.in_ok-to-in-Step.ensures (follows-next _ _ (number_at c.in_ok-to-in-Step.to c.located-in-Step.new.state) _ _ _ _ (follows-reading _ _ _ _ refl refl) (follows-next _ _ (pos 1) _ _ _ _ (follows-gives _ _ _ _ refl refl) (follows-exit _ _ _ _ _ _ c.from_residual-in_err-new-in-Step.ensures.1 one))))

pub returns-in_ok-new-in-Step : goal.returns-in_ok-new-in-Step
unfolding simple_meaning assignment_meaning
returns-in_ok-new-in-Step g c =
    let one = follows-at (λ (o : ℤ). assigned c.step_mark.result c.site_at-in-Step.result o (pos 1)) _ _ _ _ _ (to_z-of_z w32 _ (search rules) ∙ c.number_at-old-in-Step.ensures) (c.in_ok-new-in-Step.ensures.answers c.located-in-Step.new.state) in
    rw (c.in-Step.is, ← c.get-in-Step.ensures, ← c.site_at-in-Step.ensures, ← c.step_mark.ensures) (follows-next _ _ c.in_ok-to-in-Step.to _ _ _ _ c.in_ok-to-in-Step.ensures (follows-next _ _ (number_at c.in_ok-to-in-Step.to c.located-in-Step.new.state) _ _ _ _ (follows-reading _ _ _ _ refl refl) (follows-next _ _ (pos 1) _ _ _ _ (follows-gives _ _ _ _ refl refl) (follows-next _ _ c.in_ok-new-in-Step.new _ _ _ _ one (follows-changing _ tt _ _ (c.write-in-Step.ensures ∙ ap (λ (s : Shape). written s.width c.in_ok-to-in-Step.to (to_z w32 (of_z w32 c.in_ok-new-in-Step.new)) c.located-in-Step.new.state) c.shape-in-Step.ensures ∙ ap (λ (v : ℤ). written (shape_of c.args.here.now.typed.now.objects c.in_ok-to-in-Step.to.object).width c.in_ok-to-in-Step.to v c.located-in-Step.new.state) (to_z-of_z w32 _ c.in_ok-new-in-Step.ensures.fits)))))))

pub returns-in_err-x-in-SetOverflow : goal.returns-in_err-x-in-SetOverflow
unfolding simple_meaning
returns-in_err-x-in-SetOverflow g c =
    rw (c.in-SetOverflow.is, ← c.get-in-SetOverflow.ensures) (follows-exit _ _ _ _ _ _ c.from_residual-in_err-x-in-SetOverflow.ensures.1 c.in_err-x-in-SetOverflow.ensures.follows)

pub returns-in_ok-x-in-SetOverflow : goal.returns-in_ok-x-in-SetOverflow
unfolding simple_meaning
returns-in_ok-x-in-SetOverflow g c =
    rw (c.in-SetOverflow.is, ← c.get-in-SetOverflow.ensures) (follows-next _ _ c.in_ok-x-in-SetOverflow.x _ _ _ _ c.in_ok-x-in-SetOverflow.ensures.follows
    (follows-changing _ tt _ _ (c.set_overflow.ensures ∙ ap (λ (v : ℤ). with_overflow v c.expression-in-SetOverflow.new.state) (to_z-of_z w32 _ c.in_ok-x-in-SetOverflow.ensures.fits))))

pub returns-in_err-call-in-Call : goal.returns-in_err-call-in-Call
unfolding simple_meaning
returns-in_err-call-in-Call g c =
    rw c.in-Call.is (follows-and_exit _ _ _ _ _ _ c.from_residual-in_err-call-in-Call.ensures.1 c.in_err-call-in-Call.ensures.follows)

pub returns-in_ok-call-in-Call : goal.returns-in_ok-call-in-Call
unfolding simple_meaning
returns-in_ok-call-in-Call g c =
    rw c.in-Call.is (follows-and _ _ c.in_ok-call-in-Call.field-0 _ _ _ _ c.in_ok-call-in-Call.ensures.follows (follows-gives _ _ _ _ refl refl))
