-- Products of two numbers of 16 bits, and what is made of them.
use Rattle.std.proofs.Common.{◌≡◌, ◌≤◌, ℤ, pos, negsuc, ◌+ℤ◌, ◌*ℤ◌, ◌≤ℤ◌, ◌<ℤ◌, true, false, refl, sym, ap, ◌∙◌, subst, arith, lit<, ⊎_elim}
use Rattle.std.proofs.lemmas.Bool.{cases_Bool}
use Rattle.std.specs.Prelude.{FitsSigned, unsigned_abs}
use Rattle.std.specs.Int.{w16, w32}
use Rattle.std.proofs.lemmas.Int.{ints, wrapping_mul_is, int_wrap_fits, fits_signed_mul, unsigned_abs-mul}
use Rattle.std.proofs.lemmas.Nat.{mul-le}
use Rattle.sat_base.specs.Clip.{clip32}
use Rattle.operator_meaning.specs.Clipping.{changes32}
use Rattle.operator_meaning.specs.Value.{floor, product_of}
use Rattle.template_runs.specs.Values.{added, less, multiplied, to_left, to_right_signed}
use Rattle.operator_lowering.proofs.Numbers.{less_true, less_false, kept32, above32}

long_of_short : (a : ℤ) → FitsSigned w16 a → FitsSigned w32 a
long_of_short a fits = grind (arith, ints)

short_size : (a : ℤ) → FitsSigned w16 a → unsigned_abs a ≤ 32768
short_size (pos n) fits = grind (arith, ints)
short_size (negsuc n) fits = grind (arith, ints)

bounded : (t : ℤ) → unsigned_abs t ≤ 1073741824 → (negsuc 1073741823 ≤ℤ t) × (t ≤ℤ pos 1073741824)
bounded (pos n) less = (grind (arith, ints), grind (arith, ints))
bounded (negsuc n) less = (grind (arith, ints), grind (arith, ints))

-- the product is exact, and of at most 2^30
pub product_is : (a b : ℤ) → FitsSigned w16 a → FitsSigned w16 b → (multiplied a b ≡ a *ℤ b) × (negsuc 1073741823 ≤ℤ (a *ℤ b)) × ((a *ℤ b) ≤ℤ pos 1073741824)
unfolding multiplied
product_is a b fits_a fits_b =
    let size_a = short_size a fits_a in
    let size_b = short_size b fits_b in
    let fits = fits_signed_mul w32 a b 32768 32768 size_a size_b (lit< tt) in
    let size : unsigned_abs (a *ℤ b) ≤ 1073741824 = subst (λ n. n ≤ 1073741824) (sym (unsigned_abs-mul a b)) (mul-le (unsigned_abs a) (unsigned_abs b) 32768 32768 size_a size_b) in
    let range = bounded (a *ℤ b) size in
    (wrapping_mul_is w32 a b (long_of_short a fits_a) (long_of_short b fits_b) ∙ int_wrap_fits w32 (a *ℤ b) fits, range.0, range.1)

module _ (t : ℤ) (low : negsuc 1073741823 ≤ℤ t) (high : t ≤ℤ pos 1073741824) where
  -- twice the product, which wraps at 2^30 alone
  pub twice_is : t <ℤ pos 1073741824 → (to_left t 1 ≡ pos 2 *ℤ t) × FitsSigned w32 (to_left t 1)
  unfolding to_left
  twice_is less = (grind (arith, ints), grind (arith, ints))

  pub fraction_is : (to_right_signed t 15 ≡ floor t 32768) × (negsuc 32767 ≤ℤ floor t 32768) × (floor t 32768 ≤ℤ pos 32768)
  unfolding to_right_signed
  fraction_is = (grind (arith, ints), grind (arith, ints), grind (arith, ints))

  pub rounded_fraction_is : (to_right_signed (added (to_right_signed t 14) (pos 1)) 1 ≡ floor (t +ℤ pos 16384) 32768) × (negsuc 32767 ≤ℤ floor (t +ℤ pos 16384) 32768) × (floor (t +ℤ pos 16384) 32768 ≤ℤ pos 32768)
  unfolding to_right_signed added
  rounded_fraction_is = (grind (arith, ints), grind (arith, ints), grind (arith, ints))

-- ---- twice the product of two numbers of 16 bits, and its clip

twice_greatest : to_left (pos 1073741824) 1 ≡ negsuc 2147483647
unfolding to_left
twice_greatest = refl

by_greatest : {P : Type 0} (t : ℤ) → t ≤ℤ pos 1073741824 → (t <ℤ pos 1073741824 → P) → (t ≡ pos 1073741824 → P) → P
by_greatest {P} t high fewer is =
    ⊎_elim (λ (e : less t (pos 1073741824) ≡ true). fewer (less_true _ _ e)) (λ (e : less t (pos 1073741824) ≡ false). is (last high (less_false _ _ e))) (cases_Bool (less t (pos 1073741824)))
  where
    last : t ≤ℤ pos 1073741824 → pos 1073741824 ≤ℤ t → t ≡ pos 1073741824
    last high low = grind (arith, ints)

abbrev pub twice_of : ℤ → ℤ → ℤ
twice_of a b = to_left (multiplied a b) 1

module _ (a b : ℤ) (fits_a : FitsSigned w16 a) (fits_b : FitsSigned w16 b) where
  abbrev product : ℤ
  product = a *ℤ b

  abbrev twice : ℤ
  twice = twice_of a b

  is : (multiplied a b ≡ product) × (negsuc 1073741823 ≤ℤ product) × (product ≤ℤ pos 1073741824)
  is = product_is a b fits_a fits_b

  pub twice_exact : product <ℤ pos 1073741824 → (twice ≡ clip32 (product_of a b)) × (changes32 (product_of a b) ≡ false) × FitsSigned w32 twice
  twice_exact fewer =
      let two = twice_is product is.1 is.2 fewer in
      let range = within product is.1 fewer in
      let k = kept32 (product_of a b) range.0 range.1 in
      let same : twice ≡ to_left product 1 = ap (λ p. to_left p 1) is.0 in
      (same ∙ two.0 ∙ k.0, k.1, subst (FitsSigned w32) (sym same) two.1)
    where
      within : (t : ℤ) → negsuc 1073741823 ≤ℤ t → t <ℤ pos 1073741824 → (negsuc 2147483647 ≤ℤ (pos 2 *ℤ t)) × ((pos 2 *ℤ t) ≤ℤ pos 2147483647)
      within t low high = (grind (arith, ints), grind (arith, ints))

  pub twice_past : product ≡ pos 1073741824 → (twice ≡ negsuc 2147483647) × (pos 2147483647 ≡ clip32 (product_of a b)) × (changes32 (product_of a b) ≡ true)
  twice_past e =
      let k = above32 (product_of a b) (over product e) in
      (ap (λ p. to_left p 1) (is.0 ∙ e) ∙ twice_greatest, k.0, k.1)
    where
      over : (t : ℤ) → t ≡ pos 1073741824 → pos 2147483647 <ℤ (pos 2 *ℤ t)
      over t e = grind (arith, ints)

  -- twice the product, or the product, tells whether it is the one that wraps
  pub not_past : less twice (pos 0) ≡ false → product <ℤ pos 1073741824
  not_past test = by_greatest product is.2 (λ e. e) (λ e. absurd (no (less_false _ _ test) (twice_past e).0))
    where
      no : pos 0 ≤ℤ twice → twice ≡ negsuc 2147483647 → ⊥
      no low e = grind (arith, ints)

  pub not_past_below : less (multiplied a b) (pos 0) ≡ true → product <ℤ pos 1073741824
  not_past_below test = fewer (multiplied a b) product (less_true _ _ test) is.0
    where
      fewer : (p t : ℤ) → p <ℤ pos 0 → p ≡ t → t <ℤ pos 1073741824
      fewer p t high e = grind (arith, ints)

  pub past : less twice (pos 0) ≡ true → less (multiplied a b) (pos 0) ≡ false → product ≡ pos 1073741824
  past test sign =
      by_greatest product is.2
      (λ fewer. absurd (no (multiplied a b) product twice (less_false _ _ sign) is.0 (ap (λ p. to_left p 1) is.0 ∙ (twice_is product is.1 is.2 fewer).0) (less_true _ _ test)))
      (λ e. e)
    where
      no : (p t two : ℤ) → pos 0 ≤ℤ p → p ≡ t → two ≡ pos 2 *ℤ t → two <ℤ pos 0 → ⊥
      no p t two low e f high = grind (arith, ints)

  -- twice a product that is negative is negative
  pub signs_agree : less twice (pos 0) ≡ false → less (multiplied a b) (pos 0) ≡ true → ⊥
  signs_agree test sign =
      no (multiplied a b) product twice (less_true _ _ sign) is.0 (ap (λ p. to_left p 1) is.0 ∙ (twice_is product is.1 is.2 (not_past_below sign)).0) (less_false _ _ test)
    where
      no : (p t two : ℤ) → p <ℤ pos 0 → p ≡ t → two ≡ pos 2 *ℤ t → pos 0 ≤ℤ two → ⊥
      no p t two high e f low = grind (arith, ints)

  -- where no clip changes twice the product
  pub not_past_kept : changes32 (product_of a b) ≡ false → product <ℤ pos 1073741824
  not_past_kept none = by_greatest product is.2 (λ e. e) (λ e. let t = (twice_past e).2 in absurd (let f = none in cc))
