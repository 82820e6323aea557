-- Shifts by a register, as products and quotients by powers of two.
use Rattle.std.proofs.Common.{◌≡◌, ℕ, zero, suc, ◌+◌, ◌-◌, ◌*◌, ◌/◌, ◌^◌, ◌<◌, ◌≤◌, min, ℤ, pos, negsuc, ◌-ℤ◌, ◌*ℤ◌, ◌≤ℤ◌, ◌<ℤ◌, neg_ℤ, Bool, true, false, refl, sym, ap, ◌∙◌, subst, arith, ⊎_elim, nat_lt, pow_pos, pow_mono}
use Rattle.std.proofs.Math.Nat.{mul-div_cancel}
use Rattle.std.proofs.Math.Pow.{pow-add}
use Rattle.rv_encode.specs.Arithmetic.{flag_of}
use Rattle.std.specs.Prelude.{FitsSigned}
use Rattle.std.specs.Int.{w16, w32, cast_unsigned, int_wrap}
use Rattle.std.specs.Int.Signed.{shr_z}
use Rattle.std.proofs.lemmas.Bool.{cases_lt, ltb-true}
use Rattle.std.proofs.lemmas.Int.{ints, wrapping_mul_onto, to_z-of_z, int_wrap_fits}
use Rattle.std.proofs.lemmas.Nat.{mul-le, div_below, div-mul-add, div-add-mod'}
use Rattle.operator_meaning.specs.Value.{floor}
use Rattle.operator_meaning.proofs.Shifts.{right_is, right_fits}
use Rattle.template_runs.specs.Values.{to_left, to_right_signed, amount_of, flag_below, equal}

-- ---- to the right: from 31 on a further shift changes nothing

pub right_by : (x : ℤ) (k m : ℕ) → FitsSigned w32 x → m ≡ min k 31 → to_right_signed x m ≡ floor x (2 ^ k)
unfolding to_right_signed
right_by x k m fits e = right_is x k m fits.sfits e

pub right_stays : (x : ℤ) (m : ℕ) → FitsSigned w32 x → FitsSigned w32 (to_right_signed x m)
unfolding to_right_signed
right_stays x m fits = right_fits x (2 ^ m) fits

-- ---- to the left: exact where the product has 32 bits

pub left_small : (x : ℤ) (k : ℕ) → FitsSigned w32 x → k ≤ 30 → FitsSigned w32 (x *ℤ pos (2 ^ k)) → to_left x k ≡ x *ℤ pos (2 ^ k)
unfolding to_left
left_small x k fits few product =
    let most : 2 ^ k ≤ 1073741824 = pow_mono few in
    let power : FitsSigned w32 (pos (2 ^ k)) = record { sfits = omega arith } in
    wrapping_mul_onto w32 (cast_unsigned w32 x) (pos (2 ^ k)) (bits_below x fits) power
    ∙ ap (λ y. int_wrap w32 (y *ℤ pos (2 ^ k))) (to_z-of_z w32 x fits)
    ∙ int_wrap_fits w32 (x *ℤ pos (2 ^ k)) product
  where
    bits_below : (x : ℤ) → FitsSigned w32 x → cast_unsigned w32 x < 4294967296
    bits_below x fits = omega (arith, ints)

zero_left : to_left (pos 0) 31 ≡ pos 0
unfolding to_left
zero_left = refl

least_left : to_left (negsuc 0) 31 ≡ negsuc 2147483647
unfolding to_left
least_left = refl

left_last : (x : ℤ) → FitsSigned w32 (x *ℤ pos 2147483648) → to_left x 31 ≡ x *ℤ pos 2147483648
left_last (pos zero) product = zero_left
left_last (negsuc zero) product = least_left
left_last (pos (suc n)) product = absurd (let small = product.sfits in omega (arith, ints))
left_last (negsuc (suc n)) product = absurd (let small = product.sfits in omega (arith, ints))

pub left_exact : (x : ℤ) (k : ℕ) → FitsSigned w32 x → k < 32 → FitsSigned w32 (x *ℤ pos (2 ^ k)) → to_left x k ≡ x *ℤ pos (2 ^ k)
left_exact x k fits less product =
    ⊎_elim (λ (few : k < 31). left_small x k fits (omega arith) product)
    (λ (last : 31 ≤ k).
    let same : k ≡ 31 = omega arith in
    ap (to_left x) same ∙ left_last x (subst (λ n. FitsSigned w32 (x *ℤ pos (2 ^ n))) same product) ∙ ap (λ n. x *ℤ pos (2 ^ n)) (sym same))
    (cases_lt k 31)

pub left_fits : (x : ℤ) (k : ℕ) → FitsSigned w32 (to_left x k)
unfolding to_left
left_fits x k = grind (arith, ints)

-- shifted back, a product of 32 bits is the number that it was
pub back_exact : (x : ℤ) (k : ℕ) → to_right_signed (x *ℤ pos (2 ^ k)) k ≡ x
unfolding to_right_signed
back_exact (pos n) k = ap pos (mul-div_cancel n (pow_pos k))
back_exact (negsuc n) k = back_negative n (2 ^ k) (pow_pos k)
  where
    negative : (t q : ℕ) → t ≡ q + 1 → neg_ℤ (pos t) ≡ negsuc q
    negative t q e = omega (arith, ints)

    suc-times : (n p : ℕ) → suc n * p ≡ n * p + p
    suc-times n p = grind arith

    quotient : (n p : ℕ) → 0 < p → (suc n * p - 1) / p ≡ n
    quotient n p some =
        let e : suc n * p - 1 ≡ n * p + (p - 1) = let d : suc n * p ≡ n * p + p = suc-times n p in omega arith in
        ap (λ t. t / p) e ∙ div-mul-add n p (p - 1) (omega arith)

    back_negative : (n p : ℕ) → 0 < p → shr_z (negsuc n *ℤ pos p) p ≡ negsuc n
    back_negative n p some =
        let product : suc n * p ≡ (suc n * p - 1) + 1 = let q : 1 * 1 ≤ suc n * p = mul-le 1 1 (suc n) p (omega arith) some in omega arith in
        let is : negsuc n *ℤ pos p ≡ negsuc (suc n * p - 1) = negative (suc n * p) (suc n * p - 1) product in
        ap (λ y. shr_z y p) is ∙ ap negsuc (quotient n p some)

-- a number of 32 bits, shifted to the right, times the power, has 32 bits
pub product_of_back : (y x : ℤ) (k : ℕ) → FitsSigned w32 y → k < 32 → to_right_signed y k ≡ x → FitsSigned w32 (x *ℤ pos (2 ^ k))
unfolding to_right_signed
product_of_back (pos n) x k fits less e =
    let small = fits.sfits in
    let shrinks : n / 2 ^ k * 2 ^ k ≤ n = quotient_times n (2 ^ k) in
    subst (λ z. FitsSigned w32 (z *ℤ pos (2 ^ k))) e (record { sfits = omega arith })
  where
    quotient_times : (n p : ℕ) → n / p * p ≤ n
    quotient_times n p = let e = div-add-mod' n p in omega arith
product_of_back (negsuc n) x k fits less e =
    subst (λ z. FitsSigned w32 (z *ℤ pos (2 ^ k))) e (of_negative n k fits.sfits less)
  where
    of_product : (t : ℕ) → 0 < t → t ≤ 2147483648 → FitsSigned w32 (neg_ℤ (pos t))
    of_product t some most = omega (arith, ints)

    of_negative : (n k : ℕ) → n < 2147483648 → k < 32 → FitsSigned w32 (negsuc (n / 2 ^ k) *ℤ pos (2 ^ k))
    of_negative n k small less =
        let p = 2 ^ k in
        let q = n / p in
        let whole : 2147483648 ≡ 2 ^ (31 - k) * 2 ^ k = ap (λ t. 2 ^ t) (let e : 31 ≡ 31 - k + k = omega arith in e) ∙ pow-add 2 (31 - k) k in
        let below : q < 2 ^ (31 - k) = div_below n p (2 ^ (31 - k)) (pow_pos k) (subst (λ t. n < t) whole small) in
        let most : suc q * p ≤ 2 ^ (31 - k) * 2 ^ k = mul-le (suc q) p (2 ^ (31 - k)) (2 ^ k) (omega arith) (omega arith) in
        let some : 1 * 1 ≤ suc q * p = mul-le 1 1 (suc q) p (omega arith) (pow_pos k) in
        of_product (suc q * p) (omega arith) (omega arith)

-- ---- products beyond a width

pub big_positive : (x : ℤ) (p limit : ℕ) → pos 0 <ℤ x → limit ≤ p → pos limit ≤ℤ (x *ℤ pos p)
big_positive (pos n) p limit some big = let q : 1 * p ≤ n * p = mul-le 1 p n p (let one : 1 ≤ n = grind (arith, ints) in one) (omega arith) in of_naturals (n * p) limit (omega arith)
  where
    of_naturals : (t limit : ℕ) → limit ≤ t → pos limit ≤ℤ pos t
    of_naturals t limit less = omega (arith, ints)
big_positive (negsuc n) p limit some big = absurd (grind (arith, ints))

pub big_negative : (x : ℤ) (p limit : ℕ) → x <ℤ pos 0 → limit ≤ p → (x *ℤ pos p) ≤ℤ (pos 0 -ℤ pos limit)
big_negative (pos n) p limit some big = absurd (grind (arith, ints))
big_negative (negsuc n) p limit some big =
    let q : 1 * p ≤ suc n * p = mul-le 1 p (suc n) p (omega arith) (omega arith) in of_product (suc n * p) limit (omega arith)
  where
    of_product : (t limit : ℕ) → limit ≤ t → neg_ℤ (pos t) ≤ℤ (pos 0 -ℤ pos limit)
    of_product t limit less = omega (arith, ints)

-- the sign of a product with a power
pub product_positive : (x : ℤ) (p : ℕ) → pos 0 ≤ℤ x → pos 0 ≤ℤ (x *ℤ pos p)
product_positive (pos n) p low = positive (n * p)
  where
    positive : (t : ℕ) → pos 0 ≤ℤ pos t
    positive t = omega (arith, ints)
product_positive (negsuc n) p low = absurd (grind (arith, ints))

pub product_negative : (x : ℤ) (p : ℕ) → x <ℤ pos 0 → 0 < p → (x *ℤ pos p) <ℤ pos 0
product_negative x p high some = less (x *ℤ pos p) (big_negative x p 1 high some)
  where
    less : (t : ℤ) → t ≤ℤ (pos 0 -ℤ pos 1) → t <ℤ pos 0
    less t e = omega (arith, ints)

-- a number of 16 bits, shifted by at most 16, has 32 bits
pub short_product : (x : ℤ) (k : ℕ) → FitsSigned w16 x → k ≤ 16 → FitsSigned w32 (x *ℤ pos (2 ^ k))
short_product (pos n) k fits few =
    let small = fits.sfits in
    let power : 2 ^ k ≤ 65536 = pow_mono few in
    let product : n * 2 ^ k ≤ 32767 * 65536 = mul-le n (2 ^ k) 32767 65536 (omega arith) power in
    record { sfits = omega arith }
short_product (negsuc n) k fits few =
    let small = fits.sfits in
    let power : 2 ^ k ≤ 65536 = pow_mono few in
    let product : suc n * 2 ^ k ≤ 32768 * 65536 = mul-le (suc n) (2 ^ k) 32768 65536 (omega arith) power in
    of_product (suc n * 2 ^ k) (omega arith)
  where
    of_product : (t : ℕ) → t ≤ 2147483648 → FitsSigned w32 (neg_ℤ (pos t))
    of_product t most = grind (arith, ints)

-- ---- the count in a register

pub amount_is : (n : ℕ) → n < 32 → amount_of (pos n) ≡ n
unfolding amount_of
amount_is n less = omega arith

flag_false : (b : Bool) → equal (flag_of b) (pos 0) ≡ true → b ≡ false
unfolding equal
flag_false false e = refl
flag_false true e = absurd (let f = e in cc)

flag_true : (b : Bool) → equal (flag_of b) (pos 0) ≡ false → b ≡ true
unfolding equal
flag_true true e = refl
flag_true false e = absurd (let f = e in cc)

-- a count is below a limit, or it is not
pub reaches : (v : ℤ) (limit : ℕ) → equal (flag_below v (pos limit)) (pos 0) ≡ false → cast_unsigned w32 v < limit
unfolding flag_below
reaches v limit e = ltb-true _ _ (flag_true (nat_lt (cast_unsigned w32 v) limit) e)

pub reaches_not : (v : ℤ) (limit : ℕ) → equal (flag_below v (pos limit)) (pos 0) ≡ true → limit ≤ cast_unsigned w32 v
unfolding flag_below
reaches_not v limit e = let f = flag_false (nat_lt (cast_unsigned w32 v) limit) e in grind arith
