use Rattle.std.proofs.Common.{◌^◌, ap, ◌∙◌, w32, to_z, of_z}
use Rattle.std.specs.Int.Signed.{shr_z}
use Rattle.std.proofs.lemmas.Int.{to_z-of_z}
use Rattle.operator_meaning.proofs.Shifts.{right_is, right_fits}
use Rattle.operator_meaning.proofs.shift.divided.Goals as goal

pub returns : goal.returns
returns c =
    let x = c.args.x in
    let m = c.min.result in
    ap (λ y. to_z w32 (of_z w32 (shr_z y (2 ^ m)))) (to_z-of_z w32 x c.ranges.x)
    ∙ to_z-of_z w32 (shr_z x (2 ^ m)) (right_fits x (2 ^ m) c.ranges.x)
    ∙ right_is x c.args.count m c.ranges.x.sfits c.min.ensures
