-- Products of numbers of 16 bits.
use Rattle.std.proofs.Common.{◌≡◌, ap₂, to_z, of_z, ℕ, ◌≤◌, ◌≤ℤ◌, ◌*ℤ◌, ℤ, pos, negsuc, FitsSigned, arith, w16, w32, lit<, unsigned_abs, ◌*◌, neg_ℤ, suc}
use Rattle.std.proofs.lemmas.Int.{ints, to_z-of_z, fits_signed_mul}
use Rattle.std.proofs.lemmas.Nat.{mul-le}

-- a number in the range of a width is what its bits stand for
pub ruleset in_range = (to_z-of_z)

abs_below : (x : ℤ) → FitsSigned w16 x → unsigned_abs x ≤ 32768
abs_below (pos n) fits = omega (arith, fits.sfits)
abs_below (negsuc n) fits = omega (arith, fits.sfits)

pub product_fits : (a b : ℤ) → FitsSigned w16 a → FitsSigned w16 b → FitsSigned w32 (a *ℤ b)
product_fits a b first second = fits_signed_mul w32 a b 32768 32768 (abs_below a first) (abs_below b second) (lit< tt)

at_most : (n : ℕ) → n ≤ 1073741824 → pos n ≤ℤ pos 1073741824
at_most n h = omega (arith, ints)

negative_at_most : (n : ℕ) → neg_ℤ (pos n) ≤ℤ pos 1073741824
negative_at_most n = omega (arith, ints)

pub product_bound : (a b : ℤ) → FitsSigned w16 a → FitsSigned w16 b → (a *ℤ b) ≤ℤ pos 1073741824
product_bound (pos a) (pos b) first second = at_most (a * b) (mul-le a b 32768 32768 (abs_below (pos a) first) (abs_below (pos b) second))
product_bound (pos a) (negsuc b) first second = negative_at_most (a * suc b)
product_bound (negsuc a) (pos b) first second = negative_at_most (suc a * b)
product_bound (negsuc a) (negsuc b) first second = at_most (suc a * suc b) (mul-le (suc a) (suc b) 32768 32768 (abs_below (negsuc a) first) (abs_below (negsuc b) second))

pub product_read : (a b : ℤ) → FitsSigned w32 a → FitsSigned w32 b → to_z w32 (of_z w32 a) *ℤ to_z w32 (of_z w32 b) ≡ a *ℤ b
product_read a b first second = ap₂ (λ x y. x *ℤ y) (to_z-of_z w32 a first) (to_z-of_z w32 b second)
