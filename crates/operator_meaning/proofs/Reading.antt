-- The operands of an operator, as they are read.
use Rattle.std.proofs.Common.{◌≡◌, ◌<◌, ◌≤◌, ℤ, pos, List, [], ◌∷◌, map, length, get_or, FitsSigned, refl, ap, ap₂, ◌∙◌, arith, w32, to_z, of_z}
use Rattle.std.proofs.lemmas.Int.{to_z-of_z}
use Rattle.sat_base.specs.declared.width.Width.{Width}
use Rattle.sat_base.specs.declared.width.Width.TheVariants.{W16, W32}
use Rattle.operator_meaning.specs.Table.{FitsWidth, FitWidths}

pub fits_32 : (width : Width) (x : ℤ) → FitsWidth width x → FitsSigned w32 x
fits_32 W16 x fits = let small = fits.sfits in record { sfits = omega (arith, small) }
fits_32 W32 x fits = fits

abbrev pub read : ℤ → ℤ
read x = to_z w32 (of_z w32 x)

read_all : (widths : List Width) (args : List ℤ) → FitWidths widths args → map read args ≡ args
read_all [] [] fits = refl
read_all (width ∷ widths) (x ∷ xs) fits = ap₂ (λ y ys. y ∷ ys) (to_z-of_z w32 x (fits_32 width x fits.0)) (read_all widths xs fits.1)
read_all [] (x ∷ xs) fits = absurd fits
read_all (width ∷ widths) [] fits = absurd fits

three : (args : List ℤ) → length args ≡ 3 → (get_or args 0 (pos 0) ∷ get_or args 1 (pos 0) ∷ get_or args 2 (pos 0) ∷ []) ≡ args
three [] e = absurd (omega arith)
three (x ∷ []) e = absurd (omega arith)
three (x ∷ y ∷ []) e = absurd (omega arith)
three (x ∷ y ∷ z ∷ []) e = refl
three (x ∷ y ∷ z ∷ w ∷ more) e = absurd (omega arith)

pub read_three : (widths : List Width) (args : List ℤ) → FitWidths widths args → 3 ≤ length args → length args < 4 → (read (get_or args 0 (pos 0)) ∷ read (get_or args 1 (pos 0)) ∷ read (get_or args 2 (pos 0)) ∷ []) ≡ args
read_three widths args fits low high = ap (map read) (three args (omega arith)) ∙ read_all widths args fits
