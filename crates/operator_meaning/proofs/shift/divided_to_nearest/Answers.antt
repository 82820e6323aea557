use Rattle.std.proofs.Common.{◌+◌, ◌%◌, ◌*◌, ◌^◌, ◌+ℤ◌, sym, ap, ◌∙◌, arith, w32, w64, to_z, of_z}
use Rattle.std.specs.Int.Signed.{shr_z}
use Rattle.std.proofs.lemmas.Int.{to_z-of_z}
use Rattle.operator_meaning.proofs.Shifts.{nearest_beyond, nearest_is}
use Rattle.operator_meaning.proofs.shift.divided_to_nearest.Goals as goal

pub returns-then-below-gt30 : goal.returns-then-below-gt30
returns-then-below-gt30 c = sym (nearest_beyond c.args.x c.args.below c.ranges.x.sfits (omega (arith, c.if-below-gt30.true)))

pub returns : goal.returns
returns c =
    let b = c.args.below in
    ap (λ y. to_z w32 (of_z w32 (to_z w64 (of_z w64 (shr_z (to_z w64 (of_z w64 (to_z w64 (of_z w64 y) +ℤ to_z w64 (1 * 2 ^ b % 18446744073709551616)))) (2 ^ (b + 1))))))) (c.from.ensures ∙ to_z-of_z w32 c.args.x c.ranges.x)
    ∙ nearest_is c.args.x b c.ranges.x (omega (arith, c.if-below-gt30.false))
