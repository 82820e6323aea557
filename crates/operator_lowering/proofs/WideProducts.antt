-- A product of two numbers of 32 bits, in two registers.
use Rattle.std.proofs.Common.{◌≡◌, ℕ, ◌-◌, ◌/◌, ◌%◌, ℤ, pos, negsuc, ◌*ℤ◌, refl, sym, ap, ◌∙◌, arith}
use Rattle.std.specs.Prelude.{FitsSigned}
use Rattle.std.specs.Int.{w32, cast_signed, int_wrap, int_shr}
use Rattle.std.proofs.lemmas.Int.{ints, wrapping_mul_is}
use Rattle.template_runs.specs.Values.{multiplied, multiplied_high, to_right_signed}
use Rattle.operator_lowering.proofs.Sums.{Within32}

wrap_pos : (n : ℕ) → int_wrap w32 (pos n) ≡ cast_signed w32 (n % 4294967296)
unfolding int_wrap
wrap_pos n = refl

wrap_neg : (n : ℕ) → int_wrap w32 (negsuc n) ≡ cast_signed w32 (4294967296 - 1 - n % 4294967296)
unfolding int_wrap
wrap_neg n = refl

-- the upper half is the sign of the lower one where the number lies in 32 bits, and only there
high_of_pos : (n q r : ℕ) → q ≡ n / 4294967296 → r ≡ n % 4294967296 → pos q ≡ to_right_signed (cast_signed w32 r) 31 → Within32 (pos n) × (cast_signed w32 r ≡ pos n)
unfolding to_right_signed
high_of_pos n q r e f same = ((grind (arith, ints), grind (arith, ints)), grind (arith, ints))

high_of_neg : (n q r : ℕ) → q ≡ n / 4294967296 → r ≡ n % 4294967296 → negsuc q ≡ to_right_signed (cast_signed w32 (4294967295 - r)) 31 → Within32 (negsuc n) × (cast_signed w32 (4294967295 - r) ≡ negsuc n)
unfolding to_right_signed
high_of_neg n q r e f same = ((grind (arith, ints), grind (arith, ints)), grind (arith, ints))

low_of_pos : (n q r : ℕ) → q ≡ n / 4294967296 → r ≡ n % 4294967296 → Within32 (pos n) → pos q ≡ to_right_signed (cast_signed w32 r) 31
unfolding to_right_signed
low_of_pos n q r e f range = let low = range.0 in let high = range.1 in grind (arith, ints)

low_of_neg : (n q r : ℕ) → q ≡ n / 4294967296 → r ≡ n % 4294967296 → Within32 (negsuc n) → negsuc q ≡ to_right_signed (cast_signed w32 (4294967295 - r)) 31
unfolding to_right_signed
low_of_neg n q r e f range = let low = range.0 in let high = range.1 in grind (arith, ints)

same_sign : (t : ℤ) → int_shr t 32 ≡ to_right_signed (int_wrap w32 t) 31 → Within32 t × (int_wrap w32 t ≡ t)
same_sign (pos n) same = let k = high_of_pos n (n / 4294967296) (n % 4294967296) refl refl (same ∙ ap (λ x. to_right_signed x 31) (wrap_pos n)) in (k.0, wrap_pos n ∙ k.1)
same_sign (negsuc n) same = let k = high_of_neg n (n / 4294967296) (n % 4294967296) refl refl (same ∙ ap (λ x. to_right_signed x 31) (wrap_neg n)) in (k.0, wrap_neg n ∙ k.1)

sign_of : (t : ℤ) → Within32 t → int_shr t 32 ≡ to_right_signed (int_wrap w32 t) 31
sign_of (pos n) range = low_of_pos n (n / 4294967296) (n % 4294967296) refl refl range ∙ ap (λ x. to_right_signed x 31) (sym (wrap_pos n))
sign_of (negsuc n) range = low_of_neg n (n / 4294967296) (n % 4294967296) refl refl range ∙ ap (λ x. to_right_signed x 31) (sym (wrap_neg n))

module _ (a b : ℤ) (fits_a : FitsSigned w32 a) (fits_b : FitsSigned w32 b) where
  low_is : multiplied a b ≡ int_wrap w32 (a *ℤ b)
  unfolding multiplied
  low_is = wrapping_mul_is w32 a b fits_a fits_b

  high_is : multiplied_high a b ≡ int_shr (a *ℤ b) 32
  unfolding multiplied_high
  high_is = refl

  pub product_inside : multiplied_high a b ≡ to_right_signed (multiplied a b) 31 → Within32 (a *ℤ b) × (multiplied a b ≡ a *ℤ b)
  product_inside same = let k = same_sign (a *ℤ b) (sym high_is ∙ same ∙ ap (λ x. to_right_signed x 31) low_is) in (k.0, low_is ∙ k.1)

  pub product_outside : Within32 (a *ℤ b) → multiplied_high a b ≡ to_right_signed (multiplied a b) 31
  product_outside range = high_is ∙ sign_of (a *ℤ b) range ∙ ap (λ x. to_right_signed x 31) (sym low_is)

  pub product_exact : Within32 (a *ℤ b) → multiplied a b ≡ a *ℤ b
  product_exact range = (product_inside (product_outside range)).1
