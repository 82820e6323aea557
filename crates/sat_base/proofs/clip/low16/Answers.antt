-- The remainder modulo 65536 is a natural, and its two halves are the two signs of 16 bits.
use Rattle.std.proofs.Common.{◌≡◌, pos, ◌-ℤ◌, sym, ap, ◌∙◌, arith}
use Rattle.std.specs.Int.{w16, w32, cast_signed, cast_unsigned}
use Rattle.std.proofs.lemmas.Int.{ints, to_z-of_z}
use Rattle.sat_base.specs.Clip.{low16}
use Rattle.sat_base.proofs.Low.{low16_by_remainder}
use Rattle.sat_base.proofs.clip.low16.Goals as goal

pub returns-then-low-lt32768-clause-value : goal.returns-then-low-lt32768-clause-value
returns-then-low-lt32768-clause-value c =
    let by = low16_by_remainder (cast_signed w32 (cast_unsigned w32 c.args.x)) c.rem_euclid-low.result c.rem_euclid-low.ensures.value in
    let r = c.rem_euclid-low.result in
    let e : r ≡ pos by.0 = by.1 in
    let below = by.2 in
    let here : cast_signed w32 (cast_unsigned w32 r) ≡ cast_signed w16 by.0 = grind (arith, ints) in
    here ∙ sym by.3 ∙ ap low16 (to_z-of_z w32 c.args.x c.ranges.x)

pub returns-else-low-lt32768-clause-value : goal.returns-else-low-lt32768-clause-value
returns-else-low-lt32768-clause-value c =
    let by = low16_by_remainder (cast_signed w32 (cast_unsigned w32 c.args.x)) c.rem_euclid-low.result c.rem_euclid-low.ensures.value in
    let r = c.rem_euclid-low.result in
    let e : r ≡ pos by.0 = by.1 in
    let below = by.2 in
    let here : cast_signed w32 (cast_unsigned w32 (cast_signed w32 (cast_unsigned w32 r) -ℤ pos 65536)) ≡ cast_signed w16 by.0 = grind (arith, ints) in
    here ∙ sym by.3 ∙ ap low16 (to_z-of_z w32 c.args.x c.ranges.x)
