-- The courses of shifts.
use Rattle.std.proofs.Common.{◌≡◌, ℕ, zero, suc, ◌+◌, ◌^◌, ◌<◌, ◌≤◌, ℤ, pos, negsuc, ◌+ℤ◌, ◌*ℤ◌, ◌≤ℤ◌, Bool, false, not, if◌then◌else◌, List, refl, sym, ap, ◌∙◌, subst, arith, lit≤}
use Rattle.std.specs.Prelude.{FitsSigned}
use Rattle.std.specs.Int.{w16, w32}
use Rattle.std.proofs.lemmas.Int.{ints}
use Rattle.sat_base.specs.Clip.{clip16, clip32}
use Rattle.operator_meaning.specs.Clipping.{changes16, changes32}
use Rattle.operator_meaning.specs.Value.{floor}
use Rattle.operator_meaning.specs.declared.operator.Op.TheVariants as op
use Rattle.operator_meaning.specs.declared.site.SiteKind.TheVariants.{Call}
use Rattle.operator_meaning.specs.declared.site.Form.{Form}
use Rattle.operator_meaning.specs.declared.site.Form.TheVariants.{Plain, Clamp, Flag}
use Rattle.operator_meaning.specs.declared.site.Guard.{Guard}
use Rattle.template_runs.specs.Courses.{Final, Ends}
use Rattle.template_runs.specs.Values.{added, taken, less, equal, flag_below, to_left, to_right_signed, amount_of}
use Rattle.operator_lowering.specs.Courses.{IsCourse}
use Rattle.operator_lowering.proofs.Counts.{long_of_short, turned, turned_zero, one_less, not_negative, not_positive, not_above_zero, not_below_next, not_above, not_in_reach, small_count, right_tree, right_ends, right_near, plain_left, Halves, halved16, halved32, halves16, halves32, round_tree, round_ends}
use Rattle.operator_lowering.proofs.Numbers.{kept16, kept32, range_of_kept16, range_of_kept32}
use Rattle.operator_lowering.proofs.Shifts.{right_by, reaches, reaches_not}
use Rattle.operator_lowering.proofs.ShiftTrees.{own_sum, check16, near_is16, far_is16, check32, near_is32, far_is32}
use Rattle.operator_lowering.proofs.Trees.{by_test, by_turned, ends, ends_same, Sets, silent, flagged}

-- ---- a shift to the left with its clip, where the count is below a limit and from there on

record IsLeft (x : ℤ) (limit : ℕ) (clip : ℤ → ℤ) (changes : ℤ → Bool) (near far : (v kept changed : ℤ) → Final) (input : List ℤ) : Type 0 where
  pub fits : FitsSigned w32 x
  pub few : limit ≤ 32
  pub near_is : (n : ℕ) (kept changed final : ℤ) → n < limit → Sets (changes (x *ℤ pos (2 ^ n))) kept changed final → near (pos n) kept changed ≡ Ends (clip (x *ℤ pos (2 ^ n))) final input
  pub far_is : (n : ℕ) (kept changed final : ℤ) → limit ≤ n → Sets (changes (x *ℤ pos (2 ^ n))) kept changed final → far (pos n) kept changed ≡ Ends (clip (x *ℤ pos (2 ^ n))) final input
  pub plain : (n : ℕ) → changes (x *ℤ pos (2 ^ n)) ≡ false → to_left x (amount_of (pos n)) ≡ clip (x *ℤ pos (2 ^ n))
  -- a shift by 0 changes nothing
  pub by_zero : (floor x (2 ^ 0) ≡ clip (x *ℤ pos (2 ^ 0))) × (changes (x *ℤ pos (2 ^ 0)) ≡ false)

module _ {x : ℤ} {limit : ℕ} {clip : ℤ → ℤ} {changes : ℤ → Bool} {near far : (v kept changed : ℤ) → Final} {input : List ℤ} (left : IsLeft x limit clip changes near far input) (flag : ℤ) where
  abbrev Value : (n : ℕ) → (final : ℤ) → Final
  Value n final = Ends (clip (x *ℤ pos (2 ^ n))) final input

  abbrev Falls : (n : ℕ) → Final
  Falls n = Ends (floor x (2 ^ n)) flag input

  -- ---- to the left, or to the right by at most 31

  abbrev shl_plain : ℤ → Final
  shl_plain v = if not (less v (pos 0)) then Ends (to_left x (amount_of v)) flag input else right_tree x (taken (pos 0) v) flag input

  abbrev shl_tree : (v kept changed : ℤ) → Final
  shl_tree v kept changed = if not (equal (flag_below v (pos limit)) (pos 0)) then near v kept changed else (if less v (pos 0) then right_tree x (taken (pos 0) v) kept input else far v kept changed)

  rightward : (m : ℕ) → m < 32768 → right_tree x (taken (pos 0) (negsuc m)) flag input ≡ Falls (m + 1)
  rightward m few = right_ends x (taken (pos 0) (negsuc m)) (suc m) flag input left.fits (turned m few) (omega arith) ∙ ends_same (ap (λ k. floor x (2 ^ k)) (let s : suc m ≡ m + 1 = omega arith in s))

  shl_plain_pos : (n : ℕ) → changes (x *ℤ pos (2 ^ n)) ≡ false → shl_plain (pos n) ≡ Value n flag
  shl_plain_pos n none = by_turned (less (pos n) (pos 0)) (λ e. absurd (not_negative n e)) (λ e. ends_same (left.plain n none))

  shl_plain_neg : (m : ℕ) → m < 32768 → shl_plain (negsuc m) ≡ Falls (m + 1)
  shl_plain_neg m few = by_turned (less (negsuc m) (pos 0)) (λ e. rightward m few) (λ e. absurd (not_positive m e))

  shl_pos : (n : ℕ) (changed final : ℤ) → Sets (changes (x *ℤ pos (2 ^ n))) flag changed final → shl_tree (pos n) flag changed ≡ Value n final
  shl_pos n changed final sets =
      by_turned (equal (flag_below (pos n) (pos limit)) (pos 0))
      (λ e. by_test (less (pos n) (pos 0)) (λ f. absurd (not_negative n f)) (λ f. left.far_is n flag changed final (reaches_not (pos n) limit e) sets))
      (λ e. left.near_is n flag changed final (reaches (pos n) limit e) sets)

  shl_neg : (m : ℕ) (changed : ℤ) → m < 32768 → shl_tree (negsuc m) flag changed ≡ Falls (m + 1)
  shl_neg m changed few =
      by_turned (equal (flag_below (negsuc m) (pos limit)) (pos 0))
      (λ e. by_test (less (negsuc m) (pos 0)) (λ f. rightward m few) (λ f. absurd (not_positive m f)))
      (λ e. absurd (not_in_reach m limit few left.few (reaches (negsuc m) limit e)))

  -- ---- to the left by a count that is the opposite of another

  abbrev left_tree : (v kept changed : ℤ) → Final
  left_tree v kept changed = if not (equal (flag_below v (pos limit)) (pos 0)) then near v kept changed else far v kept changed

  left_is : (v : ℤ) (n : ℕ) (changed final : ℤ) → v ≡ pos n → Sets (changes (x *ℤ pos (2 ^ n))) flag changed final → left_tree v flag changed ≡ Value n final
  left_is v n changed final is sets =
      ap (λ y. left_tree y flag changed) is
      ∙ by_turned (equal (flag_below (pos n) (pos limit)) (pos 0)) (λ e. left.far_is n flag changed final (reaches_not (pos n) limit e) sets) (λ e. left.near_is n flag changed final (reaches (pos n) limit e) sets)

  abbrev plain_tree : ℤ → Final
  plain_tree v = Ends (to_left x (amount_of v)) flag input

  plain_is : (v : ℤ) (n : ℕ) → v ≡ pos n → changes (x *ℤ pos (2 ^ n)) ≡ false → plain_tree v ≡ Value n flag
  plain_is v n is none = ends_same (ap (λ y. to_left x (amount_of y)) is ∙ left.plain n none)

  -- ---- to the right by at most 31, or what leads to the left

  abbrev right_or : ℤ → Final → Final
  right_or v other =
      if not (equal (flag_below v (pos 32)) (pos 0)) then Ends (to_right_signed x (amount_of v)) flag input else (if less v (pos 0) then other else Ends (to_right_signed x 31) flag input)

  right_pos : (n : ℕ) (other : Final) → right_or (pos n) other ≡ Falls n
  right_pos n other =
      by_turned (equal (flag_below (pos n) (pos 32)) (pos 0))
      (λ e. by_test (less (pos n) (pos 0)) (λ f. absurd (not_negative n f)) (λ f. let far = reaches_not (pos n) 32 e in ends_same (right_by x n 31 left.fits (omega arith))))
      (λ e. ends_same (right_near x n left.fits (reaches (pos n) 32 e)))

  right_next : (m : ℕ) (other : Final) → right_or (pos (suc m)) other ≡ Falls (m + 1)
  right_next m other = right_pos (suc m) other ∙ ends_same (ap (λ k. floor x (2 ^ k)) (let s : suc m ≡ m + 1 = omega arith in s))

  right_neg : (m : ℕ) (other end : Final) → m < 32768 → other ≡ end → right_or (negsuc m) other ≡ end
  right_neg m other end few is =
      by_turned (equal (flag_below (negsuc m) (pos 32)) (pos 0)) (λ e. by_test (less (negsuc m) (pos 0)) (λ f. is) (λ f. absurd (not_positive m f)))
      (λ e. absurd (not_in_reach m 32 few (lit≤ tt) (reaches (negsuc m) 32 e)))

  abbrev shr_plain : ℤ → Final
  shr_plain v = right_or v (plain_tree (taken (pos 0) v))

  abbrev shr_tree : (v changed : ℤ) → Final
  shr_tree v changed = right_or v (left_tree (taken (pos 0) v) flag changed)

  shr_plain_zero : shr_plain (pos 0) ≡ Value 0 flag
  shr_plain_zero = right_pos 0 (plain_tree (taken (pos 0) (pos 0))) ∙ ends_same left.by_zero.0

  shr_plain_next : (m : ℕ) → shr_plain (pos (suc m)) ≡ Falls (m + 1)
  shr_plain_next m = right_next m (plain_tree (taken (pos 0) (pos (suc m))))

  shr_plain_neg : (m : ℕ) → m < 32768 → changes (x *ℤ pos (2 ^ suc m)) ≡ false → shr_plain (negsuc m) ≡ Value (suc m) flag
  shr_plain_neg m few none = right_neg m (plain_tree (taken (pos 0) (negsuc m))) (Value (suc m) flag) few (plain_is (taken (pos 0) (negsuc m)) (suc m) (turned m few) none)

  shr_zero : (changed final : ℤ) → Sets (changes (x *ℤ pos (2 ^ 0))) flag changed final → shr_tree (pos 0) changed ≡ Value 0 final
  shr_zero changed final sets = right_pos 0 (left_tree (taken (pos 0) (pos 0)) flag changed) ∙ ends left.by_zero.0 (sets.stays left.by_zero.1)

  shr_next : (m : ℕ) (changed : ℤ) → shr_tree (pos (suc m)) changed ≡ Falls (m + 1)
  shr_next m changed = right_next m (left_tree (taken (pos 0) (pos (suc m))) flag changed)

  shr_neg : (m : ℕ) (changed final : ℤ) → m < 32768 → Sets (changes (x *ℤ pos (2 ^ suc m))) flag changed final → shr_tree (negsuc m) changed ≡ Value (suc m) final
  shr_neg m changed final few sets =
      right_neg m (left_tree (taken (pos 0) (negsuc m)) flag changed) (Value (suc m) final) few (left_is (taken (pos 0) (negsuc m)) (suc m) changed final (turned m few) sets)

  -- ---- a positive count is rounded, another one leads to the left

  module _ (halved : ℤ → ℤ) (halves : Halves halved x) where
    abbrev Rounds : (n : ℕ) → Final
    Rounds n = Ends (floor (x +ℤ pos (2 ^ n)) (2 ^ (n + 1))) flag input

    abbrev rounded_or : ℤ → Final → Final
    rounded_or v other = if less (pos 0) v then round_tree halved x (added v (negsuc 0)) flag input else other

    rounded_next : (n : ℕ) (other : Final) → n < 32768 → rounded_or (pos (suc n)) other ≡ Rounds n
    rounded_next n other few = by_test (less (pos 0) (pos (suc n))) (λ e. round_ends halved x (added (pos (suc n)) (negsuc 0)) n flag input halves left.fits (one_less n few)) (λ e. absurd (not_below_next n e))

    rounded_zero : (other end : Final) → other ≡ end → rounded_or (pos 0) other ≡ end
    rounded_zero other end is = by_test (less (pos 0) (pos 0)) (λ e. absurd (not_above_zero e)) (λ e. is)

    rounded_neg : (m : ℕ) (other end : Final) → other ≡ end → rounded_or (negsuc m) other ≡ end
    rounded_neg m other end is = by_test (less (pos 0) (negsuc m)) (λ e. absurd (not_above m e)) (λ e. is)

    abbrev shr_r_plain : ℤ → Final
    shr_r_plain v = rounded_or v (plain_tree (taken (pos 0) v))

    abbrev shr_r_tree : (v changed : ℤ) → Final
    shr_r_tree v changed = rounded_or v (left_tree (taken (pos 0) v) flag changed)

    shr_r_plain_zero : changes (x *ℤ pos (2 ^ 0)) ≡ false → shr_r_plain (pos 0) ≡ Value 0 flag
    shr_r_plain_zero none = rounded_zero (plain_tree (taken (pos 0) (pos 0))) (Value 0 flag) (plain_is (taken (pos 0) (pos 0)) 0 turned_zero none)

    shr_r_plain_next : (n : ℕ) → n < 32768 → shr_r_plain (pos (suc n)) ≡ Rounds n
    shr_r_plain_next n few = rounded_next n (plain_tree (taken (pos 0) (pos (suc n)))) few

    shr_r_plain_neg : (m : ℕ) → m < 32768 → changes (x *ℤ pos (2 ^ suc m)) ≡ false → shr_r_plain (negsuc m) ≡ Value (suc m) flag
    shr_r_plain_neg m few none = rounded_neg m (plain_tree (taken (pos 0) (negsuc m))) (Value (suc m) flag) (plain_is (taken (pos 0) (negsuc m)) (suc m) (turned m few) none)

    shr_r_zero : (changed final : ℤ) → Sets (changes (x *ℤ pos (2 ^ 0))) flag changed final → shr_r_tree (pos 0) changed ≡ Value 0 final
    shr_r_zero changed final sets = rounded_zero (left_tree (taken (pos 0) (pos 0)) flag changed) (Value 0 final) (left_is (taken (pos 0) (pos 0)) 0 changed final turned_zero sets)

    shr_r_next : (n : ℕ) (changed : ℤ) → n < 32768 → shr_r_tree (pos (suc n)) changed ≡ Rounds n
    shr_r_next n changed few = rounded_next n (left_tree (taken (pos 0) (pos (suc n))) flag changed) few

    shr_r_neg : (m : ℕ) (changed final : ℤ) → m < 32768 → Sets (changes (x *ℤ pos (2 ^ suc m))) flag changed final → shr_r_tree (negsuc m) changed ≡ Value (suc m) final
    shr_r_neg m changed final few sets =
        rounded_neg m (left_tree (taken (pos 0) (negsuc m)) flag changed) (Value (suc m) final) (left_is (taken (pos 0) (negsuc m)) (suc m) changed final (turned m few) sets)

-- ---- of 16 bits

abbrev near16 : ℤ → List ℤ → (v kept changed : ℤ) → Final
near16 x input v kept changed = check16 (to_left x (amount_of v)) kept changed input

abbrev far16 : ℤ → List ℤ → (v kept changed : ℤ) → Final
far16 x input v kept changed = check16 (to_left x 16) kept changed input

times_one : (x : ℤ) → x *ℤ pos 1 ≡ x
times_one x = grind (arith, ints)

over_one : (x : ℤ) → floor x 1 ≡ x
over_one x = grind (arith, ints)

short : (x : ℤ) (input : List ℤ) → FitsSigned w16 x → IsLeft x 16 clip16 changes16 (near16 x input) (far16 x input) input
short x input fits = record {
  fits = long_of_short x fits;
  few = lit≤ tt;
  near_is = λ n kept changed final less sets. near_is16 x n fits less kept changed final input sets;
  far_is = λ n kept changed final most sets. far_is16 x n fits most kept changed final input sets;
  plain = plain;
  by_zero = by_zero;
}
  where
    plain : (n : ℕ) → changes16 (x *ℤ pos (2 ^ n)) ≡ false → to_left x (amount_of (pos n)) ≡ clip16 (x *ℤ pos (2 ^ n))
    plain n none =
        let t = x *ℤ pos (2 ^ n) in
        let range = range_of_kept16 t none in
        plain_left x n (long_of_short x fits) (low t range.0) (high t range.1) ∙ (kept16 t range.0 range.1).0
      where
        low : (t : ℤ) → negsuc 32767 ≤ℤ t → negsuc 2147483647 ≤ℤ t
        low t e = grind (arith, ints)

        high : (t : ℤ) → t ≤ℤ pos 32767 → t ≤ℤ pos 2147483647
        high t e = grind (arith, ints)

    by_zero : (floor x (2 ^ 0) ≡ clip16 (x *ℤ pos (2 ^ 0))) × (changes16 (x *ℤ pos (2 ^ 0)) ≡ false)
    by_zero =
        let same : x *ℤ pos 1 ≡ x = times_one x in
        let k = kept16 (x *ℤ pos 1) (subst (λ t. negsuc 32767 ≤ℤ t) (sym same) (grind (arith, ints))) (subst (λ t. t ≤ℤ pos 32767) (sym same) (grind (arith, ints))) in
        (over_one x ∙ sym same ∙ k.0, k.1)

-- ---- of 32 bits, where a register has the operand

abbrev near32 : (x operand : ℤ) → List ℤ → (v kept changed : ℤ) → Final
near32 x operand input v kept changed = check32 operand (to_left x (amount_of v)) (amount_of v) kept changed input

abbrev far32 : (x operand : ℤ) → List ℤ → (v kept changed : ℤ) → Final
far32 x operand input v kept changed = check32 operand (added (pos 0) (pos 0)) (amount_of v) kept changed input

long : (x operand : ℤ) (input : List ℤ) → operand ≡ x → FitsSigned w32 x → IsLeft x 32 clip32 changes32 (near32 x operand input) (far32 x operand input) input
long x operand input is fits = record {
  fits = fits;
  few = lit≤ tt;
  near_is = λ n kept changed final less sets. near_is32 x operand is n fits less kept changed final input sets;
  far_is = λ n kept changed final most sets. far_is32 x operand is n fits most kept changed final input sets;
  plain = plain;
  by_zero = by_zero;
}
  where
    plain : (n : ℕ) → changes32 (x *ℤ pos (2 ^ n)) ≡ false → to_left x (amount_of (pos n)) ≡ clip32 (x *ℤ pos (2 ^ n))
    plain n none =
        let t = x *ℤ pos (2 ^ n) in
        let range = range_of_kept32 t none in
        plain_left x n fits range.0 range.1 ∙ (kept32 t range.0 range.1).0

    by_zero : (floor x (2 ^ 0) ≡ clip32 (x *ℤ pos (2 ^ 0))) × (changes32 (x *ℤ pos (2 ^ 0)) ≡ false)
    by_zero =
        let same : x *ℤ pos 1 ≡ x = times_one x in
        let k = kept32 (x *ℤ pos 1) (subst (λ t. negsuc 2147483647 ≤ℤ t) (sym same) (grind (arith, ints))) (subst (λ t. t ≤ℤ pos 2147483647) (sym same) (grind (arith, ints))) in
        (over_one x ∙ sym same ∙ k.0, k.1)

-- the operand itself, and a copy
own : (x : ℤ) (input : List ℤ) → FitsSigned w32 x → IsLeft x 32 clip32 changes32 (near32 x x input) (far32 x x input) input
own x input fits = long x x input refl fits

copied : (x : ℤ) (input : List ℤ) → FitsSigned w32 x → IsLeft x 32 clip32 changes32 (near32 x (added x (pos 0)) input) (far32 x (added x (pos 0)) input) input
copied x input fits = long x (added x (pos 0)) input (own_sum x fits) fits

count_fits : (n : ℕ) → FitsSigned w16 (pos (suc n)) → n < 32768
count_fits n fits = let small = fits.sfits in omega arith

-- ---- the six shifts

pub shl : (form : Form) (guard : Guard) → IsCourse (Call op.Shl) form guard
shl Plain guard in_place site a (pos n) c flag input small asked = shl_plain_pos (short a input asked.fit.0) flag n (asked.unclipped refl)
shl Plain guard in_place site a (negsuc m) c flag input small asked = shl_plain_neg (short a input asked.fit.0) flag m (small_count m asked.fit.1.0)
shl Clamp guard in_place site a (pos n) c flag input small asked = shl_pos (short a input asked.fit.0) flag n _ _ (silent _ flag)
shl Clamp guard in_place site a (negsuc m) c flag input small asked = shl_neg (short a input asked.fit.0) flag m flag (small_count m asked.fit.1.0)
shl Flag guard in_place site a (pos n) c flag input small asked = shl_pos (short a input asked.fit.0) flag n _ _ (flagged _ flag)
shl Flag guard in_place site a (negsuc m) c flag input small asked = shl_neg (short a input asked.fit.0) flag m (added (pos 0) (pos 1)) (small_count m asked.fit.1.0)

pub shr : (form : Form) (guard : Guard) → IsCourse (Call op.Shr) form guard
shr Plain guard in_place site a (pos zero) c flag input small asked = shr_plain_zero (short a input asked.fit.0) flag
shr Plain guard in_place site a (pos (suc n)) c flag input small asked = shr_plain_next (short a input asked.fit.0) flag n
shr Plain guard in_place site a (negsuc m) c flag input small asked = shr_plain_neg (short a input asked.fit.0) flag m (small_count m asked.fit.1.0) (asked.unclipped refl)
shr Clamp guard in_place site a (pos zero) c flag input small asked = shr_zero (short a input asked.fit.0) flag flag flag (silent _ flag)
shr Clamp guard in_place site a (pos (suc n)) c flag input small asked = shr_next (short a input asked.fit.0) flag n flag
shr Clamp guard in_place site a (negsuc m) c flag input small asked = shr_neg (short a input asked.fit.0) flag m flag flag (small_count m asked.fit.1.0) (silent _ flag)
shr Flag guard in_place site a (pos zero) c flag input small asked = shr_zero (short a input asked.fit.0) flag (added (pos 0) (pos 1)) _ (flagged _ flag)
shr Flag guard in_place site a (pos (suc n)) c flag input small asked = shr_next (short a input asked.fit.0) flag n (added (pos 0) (pos 1))
shr Flag guard in_place site a (negsuc m) c flag input small asked = shr_neg (short a input asked.fit.0) flag m (added (pos 0) (pos 1)) _ (small_count m asked.fit.1.0) (flagged _ flag)

pub shr_r : (form : Form) (guard : Guard) → IsCourse (Call op.ShrR) form guard
shr_r Plain guard in_place site a (pos zero) c flag input small asked = shr_r_plain_zero (short a input asked.fit.0) flag halved16 (halves16 a asked.fit.0) (asked.unclipped refl)
shr_r Plain guard in_place site a (pos (suc n)) c flag input small asked = shr_r_plain_next (short a input asked.fit.0) flag halved16 (halves16 a asked.fit.0) n (count_fits n asked.fit.1.0)
shr_r Plain guard in_place site a (negsuc m) c flag input small asked = shr_r_plain_neg (short a input asked.fit.0) flag halved16 (halves16 a asked.fit.0) m (small_count m asked.fit.1.0) (asked.unclipped refl)
shr_r Clamp guard in_place site a (pos zero) c flag input small asked = shr_r_zero (short a input asked.fit.0) flag halved16 (halves16 a asked.fit.0) flag flag (silent _ flag)
shr_r Clamp guard in_place site a (pos (suc n)) c flag input small asked = shr_r_next (short a input asked.fit.0) flag halved16 (halves16 a asked.fit.0) n flag (count_fits n asked.fit.1.0)
shr_r Clamp guard in_place site a (negsuc m) c flag input small asked = shr_r_neg (short a input asked.fit.0) flag halved16 (halves16 a asked.fit.0) m flag flag (small_count m asked.fit.1.0) (silent _ flag)
shr_r Flag guard in_place site a (pos zero) c flag input small asked = shr_r_zero (short a input asked.fit.0) flag halved16 (halves16 a asked.fit.0) (added (pos 0) (pos 1)) _ (flagged _ flag)
shr_r Flag guard in_place site a (pos (suc n)) c flag input small asked = shr_r_next (short a input asked.fit.0) flag halved16 (halves16 a asked.fit.0) n (added (pos 0) (pos 1)) (count_fits n asked.fit.1.0)
shr_r Flag guard in_place site a (negsuc m) c flag input small asked = shr_r_neg (short a input asked.fit.0) flag halved16 (halves16 a asked.fit.0) m (added (pos 0) (pos 1)) _ (small_count m asked.fit.1.0) (flagged _ flag)

pub l_shl : (form : Form) (guard : Guard) → IsCourse (Call op.LShl) form guard
l_shl Plain guard in_place site a (pos n) c flag input small asked = shl_plain_pos (own a input asked.fit.0) flag n (asked.unclipped refl)
l_shl Plain guard in_place site a (negsuc m) c flag input small asked = shl_plain_neg (own a input asked.fit.0) flag m (small_count m asked.fit.1.0)
l_shl Clamp guard in_place site a (pos n) c flag input small asked = shl_pos (own a input asked.fit.0) flag n _ _ (silent _ flag)
l_shl Clamp guard in_place site a (negsuc m) c flag input small asked = shl_neg (own a input asked.fit.0) flag m flag (small_count m asked.fit.1.0)
l_shl Flag guard in_place site a (pos n) c flag input small asked = shl_pos (own a input asked.fit.0) flag n _ _ (flagged _ flag)
l_shl Flag guard in_place site a (negsuc m) c flag input small asked = shl_neg (own a input asked.fit.0) flag m (added (pos 0) (pos 1)) (small_count m asked.fit.1.0)

pub l_shr : (form : Form) (guard : Guard) → IsCourse (Call op.LShr) form guard
l_shr Plain guard in_place site a (pos zero) c flag input small asked = shr_plain_zero (copied a input asked.fit.0) flag
l_shr Plain guard in_place site a (pos (suc n)) c flag input small asked = shr_plain_next (copied a input asked.fit.0) flag n
l_shr Plain guard in_place site a (negsuc m) c flag input small asked = shr_plain_neg (copied a input asked.fit.0) flag m (small_count m asked.fit.1.0) (asked.unclipped refl)
l_shr Clamp guard in_place site a (pos zero) c flag input small asked = shr_zero (copied a input asked.fit.0) flag flag flag (silent _ flag)
l_shr Clamp guard in_place site a (pos (suc n)) c flag input small asked = shr_next (copied a input asked.fit.0) flag n flag
l_shr Clamp guard in_place site a (negsuc m) c flag input small asked = shr_neg (copied a input asked.fit.0) flag m flag flag (small_count m asked.fit.1.0) (silent _ flag)
l_shr Flag guard in_place site a (pos zero) c flag input small asked = shr_zero (copied a input asked.fit.0) flag (added (pos 0) (pos 1)) _ (flagged _ flag)
l_shr Flag guard in_place site a (pos (suc n)) c flag input small asked = shr_next (copied a input asked.fit.0) flag n (added (pos 0) (pos 1))
l_shr Flag guard in_place site a (negsuc m) c flag input small asked = shr_neg (copied a input asked.fit.0) flag m (added (pos 0) (pos 1)) _ (small_count m asked.fit.1.0) (flagged _ flag)

pub l_shr_r : (form : Form) (guard : Guard) → IsCourse (Call op.LShrR) form guard
l_shr_r Plain guard in_place site a (pos zero) c flag input small asked = shr_r_plain_zero (copied a input asked.fit.0) flag halved32 (halves32 a asked.fit.0) (asked.unclipped refl)
l_shr_r Plain guard in_place site a (pos (suc n)) c flag input small asked = shr_r_plain_next (copied a input asked.fit.0) flag halved32 (halves32 a asked.fit.0) n (count_fits n asked.fit.1.0)
l_shr_r Plain guard in_place site a (negsuc m) c flag input small asked = shr_r_plain_neg (copied a input asked.fit.0) flag halved32 (halves32 a asked.fit.0) m (small_count m asked.fit.1.0) (asked.unclipped refl)
l_shr_r Clamp guard in_place site a (pos zero) c flag input small asked = shr_r_zero (copied a input asked.fit.0) flag halved32 (halves32 a asked.fit.0) flag flag (silent _ flag)
l_shr_r Clamp guard in_place site a (pos (suc n)) c flag input small asked = shr_r_next (copied a input asked.fit.0) flag halved32 (halves32 a asked.fit.0) n flag (count_fits n asked.fit.1.0)
l_shr_r Clamp guard in_place site a (negsuc m) c flag input small asked = shr_r_neg (copied a input asked.fit.0) flag halved32 (halves32 a asked.fit.0) m flag flag (small_count m asked.fit.1.0) (silent _ flag)
l_shr_r Flag guard in_place site a (pos zero) c flag input small asked = shr_r_zero (copied a input asked.fit.0) flag halved32 (halves32 a asked.fit.0) (added (pos 0) (pos 1)) _ (flagged _ flag)
l_shr_r Flag guard in_place site a (pos (suc n)) c flag input small asked = shr_r_next (copied a input asked.fit.0) flag halved32 (halves32 a asked.fit.0) n (added (pos 0) (pos 1)) (count_fits n asked.fit.1.0)
l_shr_r Flag guard in_place site a (negsuc m) c flag input small asked = shr_r_neg (copied a input asked.fit.0) flag halved32 (halves32 a asked.fit.0) m (added (pos 0) (pos 1)) _ (small_count m asked.fit.1.0) (flagged _ flag)
