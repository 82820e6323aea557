-- Counts of shifts, and shifts by them.
use Rattle.std.proofs.Common.{◌≡◌, ℕ, suc, ◌+◌, ◌*◌, ◌/◌, ◌%◌, ◌^◌, ◌<◌, ◌≤◌, min, ℤ, pos, negsuc, ◌+ℤ◌, ◌*ℤ◌, ◌≤ℤ◌, Bool, true, false, not, if◌then◌else◌, List, refl, sym, ap, ◌∙◌, subst, arith, ⊎_elim}
use Rattle.std.specs.Prelude.{FitsSigned}
use Rattle.std.specs.Int.{w16, w32, cast_unsigned, cast_signed}
use Rattle.std.proofs.lemmas.Bool.{cases_lt}
use Rattle.std.proofs.lemmas.Int.{ints, to_z_pos}
use Rattle.std.proofs.lemmas.Nat.{and_mask}
use Rattle.operator_meaning.specs.Value.{floor}
use Rattle.operator_meaning.proofs.Consequences.{shifts_round}
use Rattle.template_runs.specs.Courses.{Final, Ends}
use Rattle.template_runs.specs.Values.{added, taken, less, below, equal, flag_below, both_bits, to_left, to_right_signed, amount_of}
use Rattle.operator_lowering.proofs.Numbers.{below_true, below_false, equal_true, equal_false}
use Rattle.operator_lowering.proofs.Shifts.{right_by, right_stays, left_exact, amount_is, reaches, reaches_not}
use Rattle.operator_lowering.proofs.ShiftTrees.{outside32}
use Rattle.operator_lowering.proofs.Trees.{by_turned, ends_same}

pub long_of_short : (a : ℤ) → FitsSigned w16 a → FitsSigned w32 a
long_of_short a fits = grind (arith, ints)

-- ---- counts

pub turned : (m : ℕ) → m < 32768 → taken (pos 0) (negsuc m) ≡ pos (suc m)
unfolding taken
turned m small = grind (arith, ints)

pub turned_zero : taken (pos 0) (pos 0) ≡ pos 0
unfolding taken
turned_zero = refl

pub one_less : (n : ℕ) → n < 32768 → added (pos (suc n)) (negsuc 0) ≡ pos n
unfolding added
one_less n small = grind (arith, ints)

most : added (pos 0) (pos 31) ≡ pos 31
unfolding added
most = refl

pub not_negative : (n : ℕ) → less (pos n) (pos 0) ≡ true → ⊥
unfolding less
not_negative n e = grind (arith, ints)

pub not_positive : (m : ℕ) → less (negsuc m) (pos 0) ≡ false → ⊥
unfolding less
not_positive m e = grind (arith, ints)

pub not_above_zero : less (pos 0) (pos 0) ≡ true → ⊥
unfolding less
not_above_zero e = grind (arith, ints)

pub not_below_next : (n : ℕ) → less (pos 0) (pos (suc n)) ≡ false → ⊥
unfolding less
not_below_next n e = grind (arith, ints)

pub not_above : (m : ℕ) → less (pos 0) (negsuc m) ≡ true → ⊥
unfolding less
not_above m e = grind (arith, ints)

-- a negative count is far beyond each limit
pub not_in_reach : (m limit : ℕ) → m < 32768 → limit ≤ 32 → cast_unsigned w32 (negsuc m) < limit → ⊥
not_in_reach m limit small few e = grind (arith, ints)

pub small_count : (m : ℕ) → FitsSigned w16 (negsuc m) → m < 32768
small_count m fits = fits.sfits

-- ---- to the right by a count that is at most 31

abbrev pub right_tree : (x v flag : ℤ) → List ℤ → Final
right_tree x v flag input =
    if not (below (added (pos 0) (pos 31)) v) then Ends (to_right_signed x (amount_of v)) flag input else Ends (to_right_signed x (amount_of (added (pos 0) (pos 31)))) flag input

pub right_far : (x : ℤ) (k : ℕ) → FitsSigned w32 x → 31 ≤ k → to_right_signed x (amount_of (added (pos 0) (pos 31))) ≡ floor x (2 ^ k)
right_far x k fits far = ap (λ v. to_right_signed x (amount_of v)) most ∙ ap (to_right_signed x) (amount_is 31 (omega arith)) ∙ right_by x k 31 fits (omega arith)

pub right_near : (x : ℤ) (k : ℕ) → FitsSigned w32 x → k < 32 → to_right_signed x (amount_of (pos k)) ≡ floor x (2 ^ k)
right_near x k fits near = ap (to_right_signed x) (amount_is k near) ∙ right_by x k k fits (omega arith)

below_most : (k : ℕ) → k < 65536 → below (added (pos 0) (pos 31)) (pos k) ≡ true → 31 < k
below_most k small e = let t = below_true _ _ e in let u = subst (λ v. cast_unsigned w32 v < k) most t in u

not_below_most : (k : ℕ) → below (added (pos 0) (pos 31)) (pos k) ≡ false → k < 32
not_below_most k e = let t = below_false _ _ e in let u = subst (λ v. k ≤ cast_unsigned w32 v) most t in omega arith

pub right_ends : (x v : ℤ) (k : ℕ) (flag : ℤ) (input : List ℤ) → FitsSigned w32 x → v ≡ pos k → k < 65536 → right_tree x v flag input ≡ Ends (floor x (2 ^ k)) flag input
right_ends x v k flag input fits is small =
    ap (λ y. right_tree x y flag input) is
    ∙ by_turned (below (added (pos 0) (pos 31)) (pos k)) (λ e. ends_same (right_far x k fits (let t = below_most k small e in omega arith))) (λ e. ends_same (right_near x k fits (not_below_most k e)))

-- ---- to the left where no clip changes the product

none_left : (a : ℕ) → to_left (pos 0) a ≡ pos 0
unfolding to_left
none_left a = grind (arith, ints)

pub plain_left : (x : ℤ) (n : ℕ) → FitsSigned w32 x → negsuc 2147483647 ≤ℤ (x *ℤ pos (2 ^ n)) → (x *ℤ pos (2 ^ n)) ≤ℤ pos 2147483647 → to_left x (amount_of (pos n)) ≡ x *ℤ pos (2 ^ n)
plain_left x n fits low high =
    ⊎_elim
    (λ (near : n < 32). ap (to_left x) (amount_is n near) ∙ left_exact x n fits near (fits_of (x *ℤ pos (2 ^ n)) low high))
    (λ (far : 32 ≤ n). by_zero far (equal x (pos 0)) refl)
    (cases_lt n 32)
  where
    fits_of : (t : ℤ) → negsuc 2147483647 ≤ℤ t → t ≤ℤ pos 2147483647 → FitsSigned w32 t
    fits_of t low high = grind (arith, ints)

    by_zero : 32 ≤ n → (b : Bool) → equal x (pos 0) ≡ b → to_left x (amount_of (pos n)) ≡ x *ℤ pos (2 ^ n)
    by_zero far true e =
        let none = equal_true _ _ e in
        ap (λ y. to_left y (amount_of (pos n))) none ∙ none_left (amount_of (pos n)) ∙ sym (ap (λ y. y *ℤ pos (2 ^ n)) none ∙ ap pos (let z : 0 * 2 ^ n ≡ 0 = omega arith in z))
    by_zero far false e = absurd (outside32 x x refl n fits far (λ none. equal_false _ _ e none) low high)

-- ---- rounded to the right

pub half_up : (y : ℤ) → FitsSigned w32 y → y ≤ℤ pos 2147483646 → to_right_signed (added y (pos 1)) 1 ≡ floor (y +ℤ pos 1) 2
unfolding to_right_signed added
half_up y fits high = grind (arith, ints)

pub low_bit : (y : ℤ) → FitsSigned w32 y → both_bits y (pos 1) ≡ pos (cast_unsigned w32 y % 2)
unfolding both_bits
low_bit y fits = ap (cast_signed w32) (and_mask (cast_unsigned w32 y) 1) ∙ to_z_pos w32 (cast_unsigned w32 y % 2) (omega arith)

pub halves_up : (y : ℤ) (b : ℕ) → FitsSigned w32 y → b ≡ cast_unsigned w32 y % 2 → added (to_right_signed y 1) (pos b) ≡ floor (y +ℤ pos 1) 2
unfolding to_right_signed added
halves_up y b fits e = grind (arith, ints)

-- the value of the shift by n before the last one
pub shifted_first : (x : ℤ) (n : ℕ) → FitsSigned w32 x → FitsSigned w32 (floor x (2 ^ n))
shifted_first x n fits = subst (FitsSigned w32) (right_by x n (min n 31) fits refl) (right_stays x (min n 31) fits)

pub round_law : (x : ℤ) (n : ℕ) → floor (floor x (2 ^ n) +ℤ pos 1) 2 ≡ floor (x +ℤ pos (2 ^ n)) (2 ^ (n + 1))
round_law x n = let e = (shifts_round x n).0 in cc

pub short_first : (x : ℤ) (n : ℕ) → FitsSigned w16 x → floor x (2 ^ n) ≤ℤ pos 2147483646
short_first (pos a) n fits = let small = fits.sfits in let shrinks = smaller a (2 ^ n) in upper (a / 2 ^ n) (omega arith)
  where
    smaller : (a p : ℕ) → a / p ≤ a
    smaller a p = omega arith

    upper : (q : ℕ) → q < 32768 → pos q ≤ℤ pos 2147483646
    upper q less = grind (arith, ints)
short_first (negsuc a) n fits = negative (a / 2 ^ n)
  where
    negative : (q : ℕ) → negsuc q ≤ℤ pos 2147483646
    negative q = grind (arith, ints)

-- what halves a number, which is a shift by n, so that it is the rounded shift by one more
abbrev pub Halves : (halved : ℤ → ℤ) → ℤ → Type 0
Halves halved x = (n : ℕ) → halved (floor x (2 ^ n)) ≡ floor (x +ℤ pos (2 ^ n)) (2 ^ (n + 1))

abbrev pub halved16 : ℤ → ℤ
halved16 y = to_right_signed (added y (pos 1)) 1

abbrev pub halved32 : ℤ → ℤ
halved32 y = added (to_right_signed y 1) (both_bits y (pos 1))

pub halves16 : (x : ℤ) → FitsSigned w16 x → Halves halved16 x
halves16 x fits n = half_up (floor x (2 ^ n)) (shifted_first x n (long_of_short x fits)) (short_first x n fits) ∙ round_law x n

pub halves32 : (x : ℤ) → FitsSigned w32 x → Halves halved32 x
halves32 x fits n =
    let f = floor x (2 ^ n) in
    let first = shifted_first x n fits in
    ap (added (to_right_signed f 1)) (low_bit f first) ∙ halves_up f (cast_unsigned w32 f % 2) first refl ∙ round_law x n

abbrev pub round_tree : (halved : ℤ → ℤ) → (x v flag : ℤ) → List ℤ → Final
round_tree halved x v flag input =
    if not (equal (flag_below v (pos 32)) (pos 0)) then Ends (halved (to_right_signed x (amount_of v))) flag input else Ends (halved (to_right_signed x (amount_of (added (pos 0) (pos 31))))) flag input

pub round_ends : (halved : ℤ → ℤ) (x v : ℤ) (n : ℕ) (flag : ℤ) (input : List ℤ) → Halves halved x → FitsSigned w32 x → v ≡ pos n
    → round_tree halved x v flag input ≡ Ends (floor (x +ℤ pos (2 ^ n)) (2 ^ (n + 1))) flag input
round_ends halved x v n flag input halves fits is =
    ap (λ y. round_tree halved x y flag input) is
    ∙ by_turned (equal (flag_below (pos n) (pos 32)) (pos 0))
    (λ e. let beyond = reaches_not (pos n) 32 e in ends_same (ap halved (right_far x n fits (omega arith)) ∙ halves n))
    (λ e. ends_same (ap halved (right_near x n fits (reaches (pos n) 32 e)) ∙ halves n))
