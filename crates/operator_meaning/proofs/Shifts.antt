-- Shifts as products and quotients by powers of two. Beyond the width of a number a further shift changes no
-- result, nor whether a clip changes it.
use Rattle.std.proofs.Common.{◌≡◌, ℕ, zero, suc, ◌+◌, ◌-◌, ◌*◌, ◌/◌, ◌%◌, ◌^◌, ◌<◌, ◌≤◌, inl, inr, min, true, not, ℤ, pos, negsuc, ◌+ℤ◌, ◌*ℤ◌, ◌<ℤ◌, neg_ℤ, FitsSigned, refl, sym, ap, ◌∙◌, arith, w32, w64, to_z, of_z, add-one, ap₂, pow_pos, pow_mono, int_eq}
use Rattle.std.specs.Int.{int_wrap}
use Rattle.std.specs.Int.Signed.{shr_z, mag, mag_shr}
use Rattle.std.proofs.Math.Nat.{div-eq_of_lt, div-lt_iff_lt-mul, pow-succ'}
use Rattle.std.proofs.lemmas.Int.{ints, clamps, to_z-of_z, wrapping_mul_onto, int_wrap_fits, to_z_pos}
use Rattle.std.proofs.lemmas.Nat.{one_shl, mul-le}
use Rattle.std.proofs.lemmas.Bool.{cases_lt, not_from_false, false_from_ne_true}
use Rattle.std.proofs.lemmas.Bool.Decides.{Decides-int_eq}
use Rattle.sat_base.specs.Clip.{clip16, clip32}
use Rattle.operator_meaning.specs.Value.{floor}
use Rattle.operator_meaning.specs.Clipping.{changes16, changes32}

-- ---- to the left

pub neg_of_pos : (n : ℕ) → 0 < n → neg_ℤ (pos n) ≡ negsuc (n - 1)
neg_of_pos n h = omega (arith, ints)

mag_negative : (n : ℕ) → 0 < n → n ≤ 9223372036854775808 → mag (neg_ℤ (pos n)) < 9223372036854775808
mag_negative n some most = rw (neg_of_pos n some) (omega arith)

mag_product : (x : ℤ) (m : ℕ) → mag x < 2147483648 → 0 < m → m ≤ 4294967296 → mag (x *ℤ pos m) < 9223372036854775808
mag_product (pos a) m small some most = let p : a * m ≤ 2147483647 * 4294967296 = mul-le a m 2147483647 4294967296 (omega arith) most in omega arith
mag_product (negsuc a) m small some most =
    let p : suc a * m ≤ 2147483648 * 4294967296 = mul-le (suc a) m 2147483648 4294967296 (omega arith) most in
    let q : 1 * 1 ≤ suc a * m = mul-le 1 1 (suc a) m (omega arith) some in
    mag_negative (suc a * m) (omega (arith, q)) (omega (arith, p))

pub fits_product : (x : ℤ) (k : ℕ) → FitsSigned w32 x → k ≤ 32 → FitsSigned w64 (x *ℤ pos (2 ^ k))
fits_product x k fits few = record { sfits = mag_product x (2 ^ k) fits.sfits (pow_pos k) (pow_mono few) }

pub wide : (x : ℤ) → FitsSigned w32 x → FitsSigned w64 x
wide x fits = omega (arith, ints)

bits_below : (x : ℤ) → FitsSigned w64 x → of_z w64 x < 18446744073709551616
bits_below x fits = omega (arith, ints)

pub left_is : (x : ℤ) (k : ℕ) → FitsSigned w32 x → k ≤ 32 → to_z w64 (of_z w64 x * 2 ^ k % 18446744073709551616) ≡ x *ℤ pos (2 ^ k)
left_is x k fits few =
    let most : 2 ^ k ≤ 4294967296 = pow_mono few in
    let power : FitsSigned w64 (pos (2 ^ k)) = record { sfits = omega (arith, most) } in
    wrapping_mul_onto w64 (of_z w64 x) (pos (2 ^ k)) (bits_below x (wide x fits)) power
    ∙ ap (λ y. int_wrap w64 (y *ℤ pos (2 ^ k))) (to_z-of_z w64 x (wide x fits))
    ∙ int_wrap_fits w64 (x *ℤ pos (2 ^ k)) (fits_product x k fits few)

-- ---- beyond the width

-- two numbers that each clip bounds alike
pub data AreAlike (p q : ℤ) : Type 0 where
  Same : p ≡ q → AreAlike p q
  Above : pos 2147483647 <ℤ p → pos 2147483647 <ℤ q → AreAlike p q
  Below : p <ℤ negsuc 2147483647 → q <ℤ negsuc 2147483647 → AreAlike p q

times_beyond : (x : ℤ) (m : ℕ) → 4294967296 ≤ m → AreAlike (x *ℤ pos 4294967296) (x *ℤ pos m)
times_beyond (pos zero) m big = Same (ap pos (omega arith))
times_beyond (pos (suc a)) m big =
    let p : 1 * 4294967296 ≤ suc a * m = mul-le 1 4294967296 (suc a) m (omega arith) big in
    Above (omega (arith, ints)) (omega (arith, ints, p))
times_beyond (negsuc a) m big =
    let p : 1 * 4294967296 ≤ suc a * m = mul-le 1 4294967296 (suc a) m (omega arith) big in
    Below (omega (arith, ints)) (omega (arith, ints, p))

pub shifts_alike : (x : ℤ) (k m : ℕ) → m ≡ min k 32 → AreAlike (x *ℤ pos (2 ^ m)) (x *ℤ pos (2 ^ k))
shifts_alike x k m e =
    elim (cases_lt k 32) [
      | inl below ↦ Same (ap (λ n. x *ℤ pos (2 ^ n)) (omega arith))
      | inr beyond ↦
          let same : m ≡ 32 = omega arith in
          rw same (times_beyond x (2 ^ k) (pow_mono beyond))
    ]

changed : (x y : ℤ) → (x ≡ y → ⊥) → not (int_eq x y) ≡ true
changed x y differ = not_from_false _ (false_from_ne_true _ (λ e. differ ((Decides-int_eq x y).0 e)))

above16 : (p : ℤ) → pos 2147483647 <ℤ p → clip16 p ≡ pos 32767
above16 p h = omega (arith, ints, clamps)

below16 : (p : ℤ) → p <ℤ negsuc 2147483647 → clip16 p ≡ negsuc 32767
below16 p h = omega (arith, ints, clamps)

above32 : (p : ℤ) → pos 2147483647 <ℤ p → clip32 p ≡ pos 2147483647
above32 p h = omega (arith, ints, clamps)

below32 : (p : ℤ) → p <ℤ negsuc 2147483647 → clip32 p ≡ negsuc 2147483647
below32 p h = omega (arith, ints, clamps)

above16_changes : (p : ℤ) → pos 2147483647 <ℤ p → changes16 p ≡ true
above16_changes p h = changed (clip16 p) p (λ e. omega (arith, ints, e, above16 p h))

below16_changes : (p : ℤ) → p <ℤ negsuc 2147483647 → changes16 p ≡ true
below16_changes p h = changed (clip16 p) p (λ e. omega (arith, ints, e, below16 p h))

above32_changes : (p : ℤ) → pos 2147483647 <ℤ p → changes32 p ≡ true
above32_changes p h = changed (clip32 p) p (λ e. omega (arith, ints, e, above32 p h))

below32_changes : (p : ℤ) → p <ℤ negsuc 2147483647 → changes32 p ≡ true
below32_changes p h = changed (clip32 p) p (λ e. omega (arith, ints, e, below32 p h))

pub clip16_alike : (p q : ℤ) → AreAlike p q → clip16 p ≡ clip16 q
clip16_alike p q (Same e) = ap clip16 e
clip16_alike p q (Above h k) = above16 p h ∙ sym (above16 q k)
clip16_alike p q (Below h k) = below16 p h ∙ sym (below16 q k)

pub clip32_alike : (p q : ℤ) → AreAlike p q → clip32 p ≡ clip32 q
clip32_alike p q (Same e) = ap clip32 e
clip32_alike p q (Above h k) = above32 p h ∙ sym (above32 q k)
clip32_alike p q (Below h k) = below32 p h ∙ sym (below32 q k)

pub changes16_alike : (p q : ℤ) → AreAlike p q → changes16 p ≡ changes16 q
changes16_alike p q (Same e) = ap changes16 e
changes16_alike p q (Above h k) = above16_changes p h ∙ sym (above16_changes q k)
changes16_alike p q (Below h k) = below16_changes p h ∙ sym (below16_changes q k)

pub changes32_alike : (p q : ℤ) → AreAlike p q → changes32 p ≡ changes32 q
changes32_alike p q (Same e) = ap changes32 e
changes32_alike p q (Above h k) = above32_changes p h ∙ sym (above32_changes q k)
changes32_alike p q (Below h k) = below32_changes p h ∙ sym (below32_changes q k)

-- ---- to the right

pub floor_is : (x : ℤ) (n : ℕ) → floor x n ≡ shr_z x n
floor_is (pos a) n = refl
floor_is (negsuc a) n = refl

quotients_same : (a k m : ℕ) → a < 2147483648 → m ≡ min k 31 → a / 2 ^ m ≡ a / 2 ^ k
quotients_same a k m small e =
    elim (cases_lt k 31) [
      | inl below ↦ ap (λ n. a / 2 ^ n) (omega arith)
      | inr beyond ↦
          let same : m ≡ 31 = omega arith in
          let power : 2147483648 ≤ 2 ^ k = pow_mono beyond in
          let none : a / 2147483648 ≡ 0 = div-eq_of_lt small in
          rw same (none ∙ sym (div-eq_of_lt (omega arith)))
    ]

pub right_is : (x : ℤ) (k m : ℕ) → mag x < 2147483648 → m ≡ min k 31 → shr_z x (2 ^ m) ≡ floor x (2 ^ k)
right_is (pos a) k m small e = ap pos (quotients_same a k m small e)
right_is (negsuc a) k m small e = ap negsuc (quotients_same a k m small e)

pub right_fits : (x : ℤ) (n : ℕ) → FitsSigned w32 x → FitsSigned w32 (shr_z x n)
right_fits x n fits = let less = mag_shr x n in let small = fits.sfits in record { sfits = omega (arith, less, small) }

-- ---- to the right, rounded

pub twice : (b : ℕ) → 2 ^ (b + 1) ≡ 2 * 2 ^ b
twice b = ap (λ n. 2 ^ n) (add-one b) ∙ pow-succ' 2 b

pub nearest_beyond : (x : ℤ) (b : ℕ) → mag x < 2147483648 → 31 ≤ b → floor (x +ℤ pos (2 ^ b)) (2 ^ (b + 1)) ≡ pos 0
nearest_beyond (pos a) b small far =
    let power : 2147483648 ≤ 2 ^ b = pow_mono far in
    let double = twice b in
    ap pos (div-eq_of_lt (omega (arith, power, double, small)))
nearest_beyond (negsuc a) b small far =
    let power : 2147483648 ≤ 2 ^ b = pow_mono far in
    let double = twice b in
    let e : negsuc a +ℤ pos (2 ^ b) ≡ pos (2 ^ b - suc a) = omega (arith, ints, power, small) in
    rw e (ap pos (div-eq_of_lt (omega (arith, power, double, small))))

half_below : (a b : ℕ) → a < 4294967296 → a / 2 ^ (b + 1) < 2147483648
half_below a b small =
    let power = pow_pos b in
    let double = twice b in
    let m : 1 ≤ 2 ^ b = omega (arith, power) in
    let some : 0 < 2 ^ (b + 1) = omega (arith, power, double) in
    (div-lt_iff_lt-mul some).1 (omega (arith, double, m, small))

mag_half : (x : ℤ) (b : ℕ) → mag x < 4294967296 → mag (shr_z x (2 ^ (b + 1))) < 2147483648
mag_half (pos a) b small = half_below a b small
mag_half (negsuc a) b small = half_below a b small

mag_sum : (x : ℤ) (h : ℕ) → mag x < 2147483648 → h ≤ 1073741824 → mag (x +ℤ pos h) < 4294967296
mag_sum (pos a) h small few = omega arith
mag_sum (negsuc a) h small few =
    elim (cases_lt a h) [
      | inl below ↦
          let e : negsuc a +ℤ pos h ≡ pos (h - suc a) = omega (arith, ints, below) in
          rw e (omega arith)
      | inr above ↦
          let e : negsuc a +ℤ pos h ≡ negsuc (a - h) = omega (arith, ints, above) in
          rw e (omega arith)
    ]

pub nearest_is : (x : ℤ) (b : ℕ) → FitsSigned w32 x → b ≤ 30 → to_z w32 (of_z w32 (to_z w64 (of_z w64 (shr_z (to_z w64 (of_z w64 (to_z w64 (of_z w64 x) +ℤ to_z w64 (1 * 2 ^ b % 18446744073709551616)))) (2 ^ (b + 1)))))) ≡ floor (x +ℤ pos (2 ^ b)) (2 ^ (b + 1))
nearest_is x b fits few =
    let power : 2 ^ b ≤ 1073741824 = pow_mono few in
    let half : to_z w64 (1 * 2 ^ b % 18446744073709551616) ≡ pos (2 ^ b) = ap (to_z w64) (one_shl b 64 (omega arith)) ∙ to_z_pos w64 (2 ^ b) (omega (arith, power)) in
    let sum = x +ℤ pos (2 ^ b) in
    let sum_is : to_z w64 (of_z w64 x) +ℤ to_z w64 (1 * 2 ^ b % 18446744073709551616) ≡ sum = ap₂ (λ y z. y +ℤ z) (to_z-of_z w64 x (wide x fits)) half in
    let sum_small = mag_sum x (2 ^ b) fits.sfits power in
    let sum_fits : FitsSigned w64 sum = record { sfits = omega (arith, sum_small) } in
    let quotient = shr_z sum (2 ^ (b + 1)) in
    let small = mag_half sum b sum_small in
    let quotient_fits : FitsSigned w32 quotient = record { sfits = small } in
    ap (λ y. to_z w32 (of_z w32 (to_z w64 (of_z w64 (shr_z (to_z w64 (of_z w64 y)) (2 ^ (b + 1))))))) sum_is
    ∙ ap (λ y. to_z w32 (of_z w32 (to_z w64 (of_z w64 (shr_z y (2 ^ (b + 1))))))) (to_z-of_z w64 sum sum_fits)
    ∙ ap (λ y. to_z w32 (of_z w32 y)) (to_z-of_z w64 quotient (wide quotient quotient_fits))
    ∙ to_z-of_z w32 quotient quotient_fits
    ∙ sym (floor_is sum (2 ^ (b + 1)))
