-- Absolute values and norms over the negative numbers, and over the positive ones, only rise or only fall.
use Rattle.std.proofs.Common.{◌≡◌, ℕ, zero, suc, ◌+◌, ◌*◌, ◌^◌, ◌<◌, ◌≤◌, inl, inr, ℤ, pos, negsuc, ◌*ℤ◌, ◌≤ℤ◌, ◌<ℤ◌, unsigned_abs, false, ap, ◌∙◌, arith, add-one}
use Rattle.std.proofs.Math.Nat.{pow-succ'}
use Rattle.std.proofs.lemmas.Bool.{cases_Bool}
use Rattle.std.proofs.lemmas.Bool.Decides.{nat_tests}
use Rattle.std.proofs.lemmas.Int.{ints, clamps}
use Rattle.sat_base.specs.Clip.{clip16, clip32}
use Rattle.operator_meaning.specs.Value.{is_normal, doublings, norm}

twice : (k : ℕ) → 2 ^ (k + 1) ≡ 2 * 2 ^ k
twice k = ap (λ n. 2 ^ n) (add-one k) ∙ pow-succ' 2 k

-- doublings are at most as many as are allowed
doublings_few : (k m : ℕ) (x : ℤ) → doublings k m x ≤ m
doublings_few k zero x = omega arith
doublings_few k (suc m) x = let rest = doublings_few k m (pos 2 *ℤ x) in
    elim (cases_Bool (is_normal k x)) [
      | inl e ↦ rw e (omega arith)
      | inr e ↦ rw e (omega (arith, rest))
    ]

not_normal : (k b : ℕ) → b < 2 ^ (k + 1) → is_normal k (pos b) ≡ false → b < 2 ^ k
not_normal k b most e = grind (arith, nat_tests, e, most)

small_not_normal : (k a : ℕ) → a < 2 ^ k → is_normal k (pos a) ≡ false
small_not_normal k a less = grind (arith, nat_tests, less)

-- the greater of two positive numbers is doubled no more often
pub doublings_fall : (k m a b : ℕ) → a ≤ b → b < 2 ^ (k + 1) → doublings k m (pos b) ≤ doublings k m (pos a)
doublings_fall k zero a b le most = omega arith
doublings_fall k (suc m) a b le most =
    elim (cases_Bool (is_normal k (pos b))) [
      | inl e ↦ rw e (omega arith)
      | inr e ↦
          let less = not_normal k b most e in
          let f = small_not_normal k a (omega (arith, less, le)) in
          let double = twice k in
          let rest = doublings_fall k m (2 * a) (2 * b) (omega (arith, le)) (omega (arith, less, double)) in
          rw (e, f) (omega (arith, rest))
    ]

double_negative : (a : ℕ) → pos 2 *ℤ negsuc a ≡ negsuc (2 * a + 1)
double_negative a = omega (arith, ints)

not_normal_negative : (k a : ℕ) → a + 1 ≤ 2 ^ (k + 1) → is_normal k (negsuc a) ≡ false → a + 1 ≤ 2 ^ k
not_normal_negative k a most e = grind (arith, nat_tests, e, most)

small_not_normal_negative : (k b : ℕ) → b + 1 ≤ 2 ^ k → is_normal k (negsuc b) ≡ false
small_not_normal_negative k b less = grind (arith, nat_tests, less)

-- the lesser of two negative numbers is doubled no more often
pub doublings_rise : (k m a b : ℕ) → b ≤ a → a + 1 ≤ 2 ^ (k + 1) → doublings k m (negsuc a) ≤ doublings k m (negsuc b)
doublings_rise k zero a b le most = omega arith
doublings_rise k (suc m) a b le most =
    elim (cases_Bool (is_normal k (negsuc a))) [
      | inl e ↦ rw e (omega arith)
      | inr e ↦
          let less = not_normal_negative k a most e in
          let f = small_not_normal_negative k b (omega (arith, less, le)) in
          let double = twice k in
          let rest = doublings_rise k m (2 * a + 1) (2 * b + 1) (omega (arith, le)) (omega (arith, less, double)) in
          rw (e, f, double_negative a, double_negative b) (omega (arith, rest))
    ]

-- norms of positive numbers fall, those of negative numbers rise
pub norm_falls : (k a b : ℕ) → 1 ≤ a → a ≤ b → b < 2 ^ (k + 1) → norm k (pos b) ≤ℤ norm k (pos a)
norm_falls k zero b some le most = absurd (omega (arith, some))
norm_falls k (suc a) zero some le most = absurd (omega (arith, le))
norm_falls k (suc a) (suc b) some le most = let h = doublings_fall k (k + 1) (suc a) (suc b) le most in omega (arith, ints, h)

pub norm_rises : (k a b : ℕ) → b ≤ a → a + 1 ≤ 2 ^ (k + 1) → norm k (negsuc a) ≤ℤ norm k (negsuc b)
norm_rises k zero zero le most = omega (arith, ints)
norm_rises k zero (suc b) le most = absurd (omega (arith, le))
norm_rises k (suc a) zero le most = let h = doublings_few k (k + 1) (negsuc (suc a)) in omega (arith, ints, h)
norm_rises k (suc a) (suc b) le most = let h = doublings_rise k (k + 1) (suc a) (suc b) le most in omega (arith, ints, h)

-- absolute values of negative numbers fall, those of the others rise
pub abs16_falls : (x y : ℤ) → x ≤ℤ y → y <ℤ pos 0 → clip16 (pos (unsigned_abs y)) ≤ℤ clip16 (pos (unsigned_abs x))
abs16_falls x y le negative = omega (arith, ints, clamps, le, negative)

pub abs16_rises : (x y : ℤ) → x ≤ℤ y → pos 0 ≤ℤ x → clip16 (pos (unsigned_abs x)) ≤ℤ clip16 (pos (unsigned_abs y))
abs16_rises x y le some = omega (arith, ints, clamps, le, some)

pub abs32_falls : (x y : ℤ) → x ≤ℤ y → y <ℤ pos 0 → clip32 (pos (unsigned_abs y)) ≤ℤ clip32 (pos (unsigned_abs x))
abs32_falls x y le negative = omega (arith, ints, clamps, le, negative)

pub abs32_rises : (x y : ℤ) → x ≤ℤ y → pos 0 ≤ℤ x → clip32 (pos (unsigned_abs x)) ≤ℤ clip32 (pos (unsigned_abs y))
abs32_rises x y le some = omega (arith, ints, clamps, le, some)
