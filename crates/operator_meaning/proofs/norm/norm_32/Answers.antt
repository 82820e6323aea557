use Rattle.std.proofs.Common.{◌≡◌, ◌+◌, pos, ◌-ℤ◌, sym, ap, ◌∙◌, arith, w32, to_z, of_z}
use Rattle.std.specs.Int.Signed.{mag}
use Rattle.std.specs.Int.Count.{count_leading_zeros}
use Rattle.std.proofs.lemmas.Int.{ints, to_z-of_z}
use Rattle.operator_meaning.proofs.Norms.{IsCounted, counted}
use Rattle.operator_meaning.proofs.norm.norm_32.Goals as goal

pub returns : goal.returns
returns c =
    let x = c.args.x in
    let known : IsCounted 30 1 x = counted 30 1 x (omega arith) (λ e. c.if-x-eq0.false (ap (of_z w32) e)) c.ranges.x.sfits in
    let read : c.without_sign.result ≡ mag x = c.without_sign.ensures ∙ ap mag (to_z-of_z w32 x c.ranges.x) in
    let zeros : count_leading_zeros 32 c.without_sign.result ≡ known.shifts + 1 = ap (count_leading_zeros 32) read ∙ known.zeros in
    let few = known.few in
    let shifts : to_z w32 (of_z w32 (to_z w32 (known.shifts + 1) -ℤ pos 1)) ≡ pos known.shifts = omega (arith, ints, few) in
    ap (λ n. to_z w32 (of_z w32 (to_z w32 n -ℤ pos 1))) zeros ∙ shifts ∙ sym known.value
