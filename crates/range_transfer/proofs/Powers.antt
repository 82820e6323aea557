-- The least power of two that covers two spans.
use Rattle.std.proofs.Common.{◌≡◌, ℕ, ◌+◌, ◌*◌, ◌/◌, ◌^◌, ◌<◌, ◌≤◌, max, inl, inr, ℤ, pos, ◌≤ℤ◌, ◌<ℤ◌, neg_ℤ, arith, ap, ◌∙◌, add-one, pow_mono, pow_pos}
use Rattle.std.proofs.Math.Nat.{pow-succ'}
use Rattle.std.proofs.lemmas.Bool.{cases_lt}
use Rattle.std.proofs.lemmas.Int.{ints}
use Rattle.range_core.specs.Range.{Covers}
use Rattle.range_core.specs.declared.range.Range.{Range}
use Rattle.range_core.specs.declared.range.Range.TheVariants.{Span}
use Rattle.range_transfer.specs.Bits.{around, IsHull}

twice : (k : ℕ) → 2 ^ (k + 1) ≡ 2 * 2 ^ k
twice k = ap (λ n. 2 ^ n) (add-one k) ∙ pow-succ' 2 k

-- no smaller power of two is as great as n
least_power : (j k p n : ℕ) → p ≡ 2 ^ k → p / 2 < max 1 n → 1 ≤ n → n ≤ 2 ^ j → k ≤ j
least_power j k p n is half some covers =
    elim (cases_lt j k) [
      | inl less ↦
          let step : j + 1 ≤ k = omega arith in
          let more : 2 ^ (j + 1) ≤ 2 ^ k = pow_mono step in
          let double = twice j in
          absurd (omega (arith, is, half, some, covers, more, double))
      | inr more ↦ more
    ]

pub power_few : (k p n : ℕ) → p ≡ 2 ^ k → p / 2 < max 1 n → n ≤ 2147483648 → p ≤ 2147483648
power_few k p n is half few =
    elim (cases_lt k 32) [
      | inl less ↦ let step : k ≤ 31 = omega arith in let h : 2 ^ k ≤ 2 ^ 31 = pow_mono step in omega (arith, h, is)
      | inr more ↦ let h : 2 ^ 32 ≤ 2 ^ k = pow_mono more in absurd (omega (arith, h, is, half, few))
    ]

wider : (range : Range) (r p : ℕ) → r ≤ p → Covers (around (pos r)) range → Covers (around (pos p)) range
wider range r p more covers x h = let inner = covers x h in (omega (arith, ints, inner.0), omega (arith, ints, inner.1))

-- r and s are the reaches of the ranges, and p the least power of two as great as both
pub hull : (left right : Range) (r s n p k : ℕ) → 1 ≤ r
    → Covers (around (pos r)) left → ((m : ℕ) → 1 ≤ m → Covers (around (pos m)) left → r ≤ m)
    → Covers (around (pos s)) right → ((m : ℕ) → 1 ≤ m → Covers (around (pos m)) right → s ≤ m)
    → n ≡ max r s → p ≡ 2 ^ k → n ≤ p → p / 2 < max 1 n → IsHull left right k
hull left right r s n p k some r_covers r_least s_covers s_least is power lower upper = record {
  left_fits = wider left r (2 ^ k) (omega (arith, is, power, lower)) r_covers;
  right_fits = wider right s (2 ^ k) (omega (arith, is, power, lower)) s_covers;
  least = λ j on_left on_right.
      let one : 1 ≤ 2 ^ j = pow_pos j in
      let r_most = r_least (2 ^ j) one on_left in
      let s_most = s_least (2 ^ j) one on_right in
      least_power j k p n power upper (omega (arith, is, some)) (omega (arith, is, r_most, s_most));
}

pub reach_covers : (lo hi : ℤ) (r : ℕ) → neg_ℤ (pos r) ≤ℤ lo → hi <ℤ pos r → Covers (around (pos r)) (Span lo hi)
reach_covers lo hi r low high x h = (omega (arith, ints, low, h), omega (arith, ints, high, h))

pub reach_least : (lo hi : ℤ) (r : ℕ) → lo ≤ℤ hi → ((m : ℕ) → neg_ℤ (pos m) ≤ℤ lo → hi <ℤ pos m → r ≤ m) → (m : ℕ) → Covers (around (pos m)) (Span lo hi) → r ≤ m
reach_least lo hi r some least m covers =
    let low = covers lo (omega (arith, ints), some) in
    let high = covers hi (some, omega (arith, ints)) in
    least m low.0 (omega (arith, ints, high.1))
