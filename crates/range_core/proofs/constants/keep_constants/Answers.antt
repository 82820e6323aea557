use Rattle.std.proofs.Common.{length, subst, ◌≡◌, ◌-ℤ◌, ◌+ℤ◌, ℕ, pos, get_or, w32, w64, to_z, of_z, FitsSigned, rules, arith}
use Rattle.std.proofs.lemmas.Int.{ints}
use Rattle.range_core.specs.Kept.{Adds, IsInRows, constant_row}
use Rattle.range_core.specs.Thresholds.{near_constant}
use Rattle.range_core.proofs.Rows.{adds_row, adds_same, three}
use Rattle.range_core.proofs.constants.keep_constants.Goals as goal

pub loop-constant-preserved : goal.loop-constant-preserved
loop-constant-preserved c =
    let x = get_or c.args.constants.now c.loop-constant.constant-index (pos 0) in
    let fits : FitsSigned w32 x = search rules in
    let y = to_z w64 (of_z w64 c.from-c.result) in
    let same : y ≡ x = omega (arith, ints, fits, c.from-c.ensures) in
    let kept = adds_same c.loop-constant.values.items _ (near_constant x) c.keep_all.new.values.items
    (three (to_z w64 (of_z w64 (y -ℤ pos 1))) y (to_z w64 (of_z w64 (y +ℤ pos 1))) (x -ℤ pos 1) x (x +ℤ pos 1) (omega (arith, ints, fits, same)) same (omega (arith, ints, fits, same)))
    c.in_ok-keep_all.ensures in
    adds_row (constant_row c.args.constants.now) c.loop-constant.constant-index c.args.values.now.items c.loop-constant.values.items c.keep_all.new.values.items c.loop-constant.invariant kept

pub returns : goal.returns
returns c =
    let e : c.loop-constant.constant-index ≡ length c.args.constants.now = omega arith in
    subst (λ (n : ℕ). Adds c.args.values.now.items (IsInRows (constant_row c.args.constants.now) n) c.loop-constant.values.items) e c.loop-constant.invariant
