-- The operands of plain arithmetic, as they are read.
use Rattle.std.proofs.Common.{◌≡◌, ℕ, zero, suc, ◌≤◌, ℤ, pos, negsuc, ◌*ℤ◌, FitsSigned, [], ◌∷◌, take, refl, arith, w32, w64, unsigned_abs, lit<}
use Rattle.std.proofs.lemmas.Int.{fits_signed_mul}
use Rattle.sat_base.specs.declared.width.Width.TheVariants.{W32}
use Rattle.operator_meaning.specs.Table.{FitWidths}

pub one_operand : (n : ℕ) (x y z : ℤ) → FitWidths (W32 ∷ []) (take n (x ∷ y ∷ z ∷ [])) → take n (x ∷ y ∷ z ∷ []) ≡ x ∷ []
one_operand zero x y z fits = absurd fits
one_operand (suc zero) x y z fits = refl
one_operand (suc (suc n)) x y z fits = absurd fits.1

pub two_operands : (n : ℕ) (x y z : ℤ) → FitWidths (W32 ∷ W32 ∷ []) (take n (x ∷ y ∷ z ∷ [])) → take n (x ∷ y ∷ z ∷ []) ≡ x ∷ y ∷ []
two_operands zero x y z fits = absurd fits
two_operands (suc zero) x y z fits = absurd fits.1
two_operands (suc (suc zero)) x y z fits = refl
two_operands (suc (suc (suc n))) x y z fits = absurd fits.1.1

abs_below : (x : ℤ) → FitsSigned w32 x → unsigned_abs x ≤ 2147483648
abs_below (pos n) fits = omega (arith, fits.sfits)
abs_below (negsuc n) fits = omega (arith, fits.sfits)

pub product_fits : (x y : ℤ) → FitsSigned w32 x → FitsSigned w32 y → FitsSigned w64 (x *ℤ y)
product_fits x y first second = fits_signed_mul w64 x y 2147483648 2147483648 (abs_below x first) (abs_below y second) (lit< tt)
