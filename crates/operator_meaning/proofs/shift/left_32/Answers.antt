use Rattle.std.proofs.Common.{◌≡◌, ◌^◌, pos, ◌*ℤ◌, ap, ◌∙◌, w32, w64, to_z, of_z}
use Rattle.std.proofs.lemmas.Int.{to_z-of_z}
use Rattle.sat_base.specs.Clip.{clip32}
use Rattle.operator_meaning.specs.Clipping.{changes32}
use Rattle.operator_meaning.proofs.Shifts.{AreAlike, shifts_alike, clip32_alike, changes32_alike}
use Rattle.operator_meaning.proofs.shift.left_32.Goals as goal

passed : (c : goal.After-to_32) → to_z w64 (of_z w64 c.multiplied.result) ≡ c.args.x *ℤ pos (2 ^ c.min.result)
passed c =
    to_z-of_z w64 c.multiplied.result (record { sfits = c.multiplied.type_inv })
    ∙ c.multiplied.ensures
    ∙ ap (λ x. x *ℤ pos (2 ^ c.min.result)) (to_z-of_z w32 c.args.x c.ranges.x)

alike : (c : goal.After-to_32) → AreAlike (c.args.x *ℤ pos (2 ^ c.min.result)) (c.args.x *ℤ pos (2 ^ c.args.count))
alike c = shifts_alike c.args.x c.args.count c.min.result c.min.ensures

pub returns-clause-value : goal.returns-clause-value
returns-clause-value c = c.to_32.ensures.value ∙ ap clip32 (passed c) ∙ clip32_alike _ _ (alike c)

pub returns-clause-clips : goal.returns-clause-clips
returns-clause-clips c = c.to_32.ensures.clips ∙ ap changes32 (passed c) ∙ changes32_alike _ _ (alike c)
