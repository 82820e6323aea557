use Rattle.std.proofs.Common.{◌≡◌, arith, w32, w64, FitsSigned, to_z, of_z}
use Rattle.std.proofs.lemmas.Int.{ints}
use Rattle.range_core.proofs.Rows.{adds_pushed}
use Rattle.range_core.proofs.constants.keep.Goals as goal

pub returns-in_ok-push : goal.returns-in_ok-push
returns-in_ok-push c =
    let fits : FitsSigned w32 c.args.x = omega (arith, ints) in
    let same : to_z w32 (of_z w32 (to_z w64 (of_z w64 c.args.x))) ≡ c.args.x = omega (arith, ints) in
    let pushed = rw same at c.in_ok-push.ensures.items in
    rw pushed (adds_pushed c.args.values.now.items c.args.x fits)
