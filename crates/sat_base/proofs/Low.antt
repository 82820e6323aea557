-- The low 16 bits by the remainder modulo 65536.
use Rattle.std.proofs.Common.{◌≡◌, ℕ, ◌-◌, ◌%◌, ◌<◌, ℤ, pos, negsuc, FitsSigned, refl, arith}
use Rattle.std.specs.Int.{w16, int_rem_euclid, cast_signed, int_wrap}
use Rattle.std.proofs.lemmas.Int.{ints}
use Rattle.sat_base.specs.Clip.{low16}

fits_16 : (n : ℕ) → n < 65536 → FitsSigned w16 (cast_signed w16 n)
fits_16 n below = omega (arith, ints)

-- the remainder is a natural below 65536, and the low bits are it, read as signed
pub low16_by_remainder : (x r : ℤ) → r ≡ int_rem_euclid x (pos 65536) → (n : ℕ) × (r ≡ pos n) × (n < 65536) × (low16 x ≡ cast_signed w16 n)
unfolding int_wrap
low16_by_remainder (pos a) r e = (a % 65536, e, omega arith, refl)
low16_by_remainder (negsuc a) r e = (65536 - 1 - a % 65536, e, omega arith, refl)

-- what is read as a signed number of 16 bits fits them
pub low16_fits : (x : ℤ) → FitsSigned w16 (low16 x)
low16_fits x = let by = low16_by_remainder x (int_rem_euclid x (pos 65536)) refl in let below = by.2 in let e = by.3 in rw e (fits_16 by.0 below)
