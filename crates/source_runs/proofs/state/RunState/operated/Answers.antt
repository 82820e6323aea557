use Rattle.std.proofs.Common.{◌≡◌, refl, ap, ◌∙◌, to_z, of_z, w32}
use Rattle.std.proofs.lemmas.Int.{to_z-of_z}
use Rattle.operator_meaning.specs.Clipping.{raises_of}
use Rattle.operator_meaning.specs.Table.{row_of}
use Rattle.source_runs.specs.State.{raised, counted}
use Rattle.source_runs.specs.Calls.{operated, after_operator}
use Rattle.source_runs.proofs.Following.{follows-gives, follows-changing, follows-had, follows-stopped, follows-next, follows-out, follows-and}
use Rattle.source_runs.proofs.Operators.{fits_32, same_test}
use Rattle.source_runs.proofs.state.RunState.operated.Goals as goal

pub returns-in_default : goal.returns-in_default
unfolding operated
returns-in_default c = follows-out _ _ _ _ _ (follows-stopped c.args.site _ _ c.in_default.ensures.value)

pub returns : goal.returns
unfolding operated
returns c =
    let same : to_z w32 (of_z w32 c.in-Ok.found) ≡ c.in-Ok.found = to_z-of_z w32 c.in-Ok.found (fits_32 (row_of c.args.op).gives _ c.in-Ok.ensures.fits) in
    let raises = same_test c.raises.result (raises_of c.args.op c.args.args.now) c.raises.ensures in
    let kept : c.raise.new.self ≡ after_operator c.args.table c.args.op c.args.args.now c.args.self.now =
    c.raise.ensures ∙ ap (λ b. raised b c.add_to_count.new.self) raises
    ∙ ap (raised (raises_of c.args.op c.args.args.now)) (c.add_to_count.ensures ∙ ap (λ w. counted w c.args.self.now) c.weight.ensures) in
    follows-next _ _ c.in-Ok.found _ _ c.args.self.now _ (follows-had c.args.site _ _ _ c.in-Ok.ensures.value) (follows-and _ _ tt _ _ c.raise.new.self _ (follows-changing _ tt _ _ kept) (follows-gives _ _ _ _ same refl))
