-- What instructions compute, by what expressions mean.
use Rattle.std.proofs.Common.{◌≡◌, ℕ, ◌-◌, ◌%◌, ℤ, pos, negsuc, Bool, true, false, not, int_lt, int_le, refl, sym, ◌∙◌, arith}
use Rattle.std.specs.Prelude.{FitsSigned}
use Rattle.std.specs.Int.{w16, w32, cast_signed, int_wrapping_sub, int_bit_xor, int_bit_not, int_rem_euclid}
use Rattle.std.specs.Ordering.{int_eq}
use Rattle.std.proofs.lemmas.Bool.Decides.{nat_tests}
use Rattle.std.proofs.lemmas.Int.{ints, SFits-int_wrap}
use Rattle.sat_base.specs.Clip.{low16}
use Rattle.sat_base.proofs.Low.{low16_by_remainder}
use Rattle.rv_encode.specs.Arithmetic.{flag_of, is_below, shifted_left, shifted_right_signed}
use Rattle.source_runs.specs.Marks.{truth}

pub zero_test : (x : ℤ) → FitsSigned w32 x → flag_of (is_below x (pos 1)) ≡ truth (int_eq x (pos 0))
zero_test x fits = grind (arith, ints, nat_tests)

pub equal_test : (x y : ℤ) → FitsSigned w32 x → FitsSigned w32 y → flag_of (is_below (int_wrapping_sub w32 x y) (pos 1)) ≡ truth (int_eq x y)
equal_test x y fits fits2 = grind (arith, ints, nat_tests)

pub unequal_test : (x y : ℤ) → FitsSigned w32 x → FitsSigned w32 y → flag_of (is_below (pos 0) (int_wrapping_sub w32 x y)) ≡ truth (not (int_eq x y))
unequal_test x y fits fits2 = grind (arith, ints, nat_tests)

pub above_zero : (x : ℤ) → FitsSigned w32 x → flag_of (is_below (pos 0) x) ≡ truth (not (int_eq x (pos 0)))
above_zero x fits = grind (arith, ints, nat_tests)

pub turned_test : (b : Bool) → int_bit_xor w32 (flag_of b) (pos 1) ≡ truth (not b)
turned_test true = refl
turned_test false = refl

pub not_less : (x y : ℤ) → truth (not (int_lt y x)) ≡ truth (int_le x y)
not_less x y = grind (arith, ints)

narrowed_pos : (a n : ℕ) → FitsSigned w32 (pos a) → n ≡ a % 65536 → shifted_right_signed (shifted_left (pos a) 16) 16 ≡ cast_signed w16 n
narrowed_pos a n fits e = grind (arith, ints)

narrowed_neg : (a n : ℕ) → FitsSigned w32 (negsuc a) → n ≡ 65536 - 1 - a % 65536 → shifted_right_signed (shifted_left (negsuc a) 16) 16 ≡ cast_signed w16 n
narrowed_neg a n fits e = grind (arith, ints)

pub narrowed : (a : ℤ) → FitsSigned w32 a → shifted_right_signed (shifted_left a 16) 16 ≡ low16 a
narrowed (pos a) fits =
    let by = low16_by_remainder (pos a) (int_rem_euclid (pos a) (pos 65536)) refl in
    let e : by.0 ≡ a % 65536 = let f = by.1 in cc in
    narrowed_pos a by.0 fits e ∙ sym by.3
narrowed (negsuc a) fits =
    let by = low16_by_remainder (negsuc a) (int_rem_euclid (negsuc a) (pos 65536)) refl in
    let e : by.0 ≡ 65536 - 1 - a % 65536 = let f = by.1 in cc in
    narrowed_neg a by.0 fits e ∙ sym by.3

pub inverted : (x : ℤ) → FitsSigned w32 x → int_wrapping_sub w32 (negsuc 0) x ≡ int_bit_not w32 x
inverted x fits = grind (arith, ints)

pub low_fits : (x : ℤ) → FitsSigned w16 (low16 x)
low_fits x = SFits-int_wrap w16 x

pub truth_fits : (b : Bool) → FitsSigned w32 (truth b)
truth_fits true = grind (arith, ints)
truth_fits false = grind (arith, ints)
