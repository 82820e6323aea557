use Rattle.std.proofs.Common.{subst, ◌≡◌, ◌^◌, ◌<◌, ◌-ℤ◌, neg_ℤ, ℕ, pos, w64, to_z, of_z, arith}
use Rattle.std.proofs.lemmas.Int.{ints}
use Rattle.range_core.specs.Kept.{Adds, IsInRows}
use Rattle.range_core.specs.Thresholds.{near_power}
use Rattle.range_core.proofs.Rows.{adds_row, adds_same, three, twice, power_fits}
use Rattle.range_core.proofs.constants.keep_powers.Goals as goal

pub loop-k-preserved : goal.loop-k-preserved
loop-k-preserved c =
    let k = c.loop-k.k in
    let double = twice k in
    let few : 2 ^ k < 4294967296 = power_fits k c.loop-k-test.true in
    let power = to_z w64 c.loop-k.power-bits in
    let is : power ≡ pos (2 ^ k) = c.loop-k.invariant.power in
    let less : to_z w64 (of_z w64 (power -ℤ pos 1)) ≡ pos (2 ^ k) -ℤ pos 1 = omega (arith, ints, few, is) in
    let opposite : to_z w64 (of_z w64 (pos 0 -ℤ power)) ≡ neg_ℤ (pos (2 ^ k)) = omega (arith, ints, few, is) in
    let row = three power _ _ (pos (2 ^ k)) (pos (2 ^ k) -ℤ pos 1) (neg_ℤ (pos (2 ^ k))) is less opposite in
    record {
      power = omega (arith, ints, double, few, is);
      kept = adds_row near_power k c.args.values.now.items c.loop-k.values.items c.keep_all.new.values.items c.loop-k.invariant.kept
          (adds_same c.loop-k.values.items _ (near_power k) c.keep_all.new.values.items row c.in_ok-keep_all.ensures);
    }

pub returns : goal.returns
returns c =
    let e : c.loop-k.k ≡ 32 = omega arith in
    subst (λ (n : ℕ). Adds c.args.values.now.items (IsInRows near_power n) c.loop-k.values.items) e c.loop-k.invariant.kept
