use Rattle.std.proofs.Common.{refl, sym, ◌∙◌, w32, rules}
use Rattle.std.proofs.lemmas.Int.{to_z-of_z}
use Rattle.source_runs.proofs.Following.{follows-gives, follows-changing, follows-next, follows-exit, follows-and, follows-as}
use Rattle.source_meaning.proofs.Calls.{too_deep, no_function, entered}
use Rattle.source_meaning.proofs.function.+fn-function-calls+function.Goals as goal

pub returns-then-here-eq0-clause-follows : goal.returns-then-here-eq0-clause-follows
returns-then-here-eq0-clause-follows t c = too_deep _ _ _ _ _ _ c.if-here-eq0.true

pub returns-in_default-clause-follows : goal.returns-in_default-clause-follows
returns-in_default-clause-follows t c = no_function _ _ _ _ _ _ c.if-here-eq0.false (sym c.in_default.ensures.value)

pub returns-in_err-flow-clause-follows : goal.returns-in_err-flow-clause-follows
returns-in_err-flow-clause-follows t c =
    let given = rw (c.objects.ensures, c.as_slice-params.ensures, c.as_slice.ensures) at c.in_ok-give_all.ensures in
    follows-as _ _ _ _ _ (entered _ _ _ _ _ _ c.if-here-eq0.false (sym c.in-Some.ensures.value))
    (follows-exit _ _ _ _ _ _ c.from_residual-in_err-flow.ensures.1 (follows-and _ _ tt _ _ c.give_all.new.self _ (follows-changing _ tt _ _ given) c.in_err-flow.ensures))

pub returns-clause-follows : goal.returns-clause-follows
returns-clause-follows t c =
    let given = rw (c.objects.ensures, c.as_slice-params.ensures, c.as_slice.ensures) at c.in_ok-give_all.ensures in
    follows-as _ _ _ _ _ (entered _ _ _ _ _ _ c.if-here-eq0.false (sym c.in-Some.ensures.value))
    (follows-next _ _ c.in_ok-flow.flow _ _ _ _ (follows-and _ _ tt _ _ c.give_all.new.self _ (follows-changing _ tt _ _ given) c.in_ok-flow.ensures)
    (follows-gives _ _ _ _ (to_z-of_z w32 _ (search rules) ∙ c.returned.ensures) refl))
