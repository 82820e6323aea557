-- The low 16 bits of numbers: each run of 65536 numbers is kept in order.
use Rattle.std.proofs.Common.{◌≡◌, ℤ, pos, negsuc, ◌+ℤ◌, ◌-ℤ◌, ◌*ℤ◌, ◌≤ℤ◌, ◌<ℤ◌, FitsSigned, w16, refl, sym, ap, ◌∙◌, arith}
use Rattle.std.specs.Int.{int_wrap}
use Rattle.std.proofs.lemmas.Int.{ints, int_wrap_fits, int_wrap-add_right, int_wrap-mul_left}
use Rattle.sat_base.specs.Clip.{low16}
use Rattle.operator_meaning.specs.Value.{floor}
use Rattle.range_transfer.proofs.Steady.{floor_up}

none_of_run : int_wrap w16 (pos 65536) ≡ pos 0
unfolding int_wrap
none_of_run = refl

none_of_zero : int_wrap w16 (pos 0) ≡ pos 0
unfolding int_wrap
none_of_zero = refl

nothing : (q : ℤ) → pos 0 *ℤ q ≡ pos 0
nothing q = omega (arith, ints)

none_of_multiple : (q : ℤ) → int_wrap w16 (pos 65536 *ℤ q) ≡ pos 0
none_of_multiple q = sym (int_wrap-mul_left w16 (pos 65536) q) ∙ ap (λ (z : ℤ). int_wrap w16 (z *ℤ q)) none_of_run ∙ ap (int_wrap w16) (nothing q) ∙ none_of_zero

-- a number of 16 bits and a multiple of 65536
low_of_sum : (x q : ℤ) → FitsSigned w16 x → low16 (x +ℤ pos 65536 *ℤ q) ≡ x
low_of_sum x q fits =
    sym (int_wrap-add_right w16 x (pos 65536 *ℤ q)) ∙ ap (λ (y : ℤ). int_wrap w16 (x +ℤ y)) (none_of_multiple q) ∙ ap (int_wrap w16) (plain x) ∙ int_wrap_fits w16 x fits
  where
    plain : (x : ℤ) → x +ℤ pos 0 ≡ x
    plain x = omega (arith, ints)

-- the number of the run
abbrev pub run_of : ℤ → ℤ
run_of x = floor (x +ℤ pos 32768) 65536

floor_bounds : (x : ℤ) → ((pos 65536 *ℤ floor x 65536) ≤ℤ x) × (x <ℤ (pos 65536 *ℤ floor x 65536 +ℤ pos 65536))
floor_bounds (pos a) = (omega (arith, ints), omega (arith, ints))
floor_bounds (negsuc a) = (omega (arith, ints), omega (arith, ints))

pub low_is : (x : ℤ) → low16 x ≡ x -ℤ pos 65536 *ℤ run_of x
low_is x =
    let q = run_of x in
    let bounds = floor_bounds (x +ℤ pos 32768) in
    let fits : FitsSigned w16 (x -ℤ pos 65536 *ℤ q) = omega (arith, ints, bounds.0, bounds.1) in
    let whole : x ≡ (x -ℤ pos 65536 *ℤ q) +ℤ pos 65536 *ℤ q = omega (arith, ints) in
    ap low16 whole ∙ low_of_sum (x -ℤ pos 65536 *ℤ q) q fits

pub run_bounds : (x : ℤ) → ((pos 65536 *ℤ run_of x) ≤ℤ (x +ℤ pos 32768)) × ((x +ℤ pos 32768) <ℤ (pos 65536 *ℤ run_of x +ℤ pos 65536))
run_bounds x = floor_bounds (x +ℤ pos 32768)

pub low_fits : (x : ℤ) → (negsuc 32767 ≤ℤ low16 x) × (low16 x ≤ℤ pos 32767)
low_fits x = let bounds = run_bounds x in (omega (arith, ints, low_is x, bounds), omega (arith, ints, low_is x, bounds))

-- in one run the order is kept
pub low_rises : (lo x hi : ℤ) → lo ≤ℤ x → x ≤ℤ hi → run_of lo ≡ run_of hi → (low16 lo ≤ℤ low16 x) × (low16 x ≤ℤ low16 hi)
low_rises lo x hi le le' e =
    let under = floor_up 65536 (omega arith) (lo +ℤ pos 32768) (x +ℤ pos 32768) (omega (arith, ints, le)) in
    let over = floor_up 65536 (omega arith) (x +ℤ pos 32768) (hi +ℤ pos 32768) (omega (arith, ints, le')) in
    (omega (arith, ints, low_is lo, low_is x, under, over, e, le), omega (arith, ints, low_is hi, low_is x, under, over, e, le'))

-- where two runs meet, the greatest number of 16 bits stands before the least
pub low_at_end : (q : ℤ) → low16 (pos 65536 *ℤ q +ℤ pos 32767) ≡ pos 32767
low_at_end q = ap low16 (order q) ∙ low_of_sum (pos 32767) q (record { sfits = omega arith })
  where
    order : (q : ℤ) → pos 65536 *ℤ q +ℤ pos 32767 ≡ pos 32767 +ℤ pos 65536 *ℤ q
    order q = omega (arith, ints)

pub low_at_begin : (q : ℤ) → low16 (pos 65536 *ℤ q -ℤ pos 32768) ≡ negsuc 32767
low_at_begin q = ap low16 (order q) ∙ low_of_sum (negsuc 32767) q (record { sfits = omega arith })
  where
    order : (q : ℤ) → pos 65536 *ℤ q -ℤ pos 32768 ≡ negsuc 32767 +ℤ pos 65536 *ℤ q
    order q = omega (arith, ints)
