-- The courses of norms.
use Rattle.std.proofs.Common.{◌≡◌, ◌≢◌, ℕ, ◌+◌, ◌-◌, ◌*◌, ◌/◌, ◌^◌, ◌<◌, ◌≤◌, ℤ, pos, negsuc, Bool, true, false, not, if◌then◌else◌, List, refl, sym, ap, ◌∙◌, arith, ⊎_elim, lit≤, lit<, pow_pos, add-one}
use Rattle.std.proofs.Math.Nat.{pow-succ'}
use Rattle.std.proofs.lemmas.Bool.{cases_lt}
use Rattle.std.proofs.lemmas.Nat.{div_below, le-div}
use Rattle.std.specs.Prelude.{FitsSigned}
use Rattle.std.specs.Int.{w16, w32}
use Rattle.std.specs.Int.Signed.{mag}
use Rattle.std.proofs.lemmas.Int.{ints}
use Rattle.std.proofs.lemmas.Grind.{common_steps}
use Rattle.operator_meaning.specs.Value.{norm}
use Rattle.operator_meaning.specs.declared.operator.Op.TheVariants as op
use Rattle.operator_meaning.specs.declared.site.SiteKind.TheVariants.{Call}
use Rattle.operator_meaning.specs.declared.site.Form.{Form}
use Rattle.operator_meaning.specs.declared.site.Form.TheVariants.{Plain, Clamp, Flag}
use Rattle.operator_meaning.specs.declared.site.Guard.{Guard}
use Rattle.template_runs.specs.Courses.{Final, Ends, runs}
use Rattle.template_runs.specs.Machine.{begun}
use Rattle.template_runs.specs.Values.{added, taken, equal, both_bits, to_left, to_right, to_right_signed, other_bits}
use Rattle.operator_lowering.specs.declared.tables.norms.TheConstants.{NORM_S, NORM_L}
use Rattle.operator_lowering.specs.Courses.{IsCourse, apart_of}
use Rattle.operator_lowering.specs.declared.way.Way.TheVariants.{Straight}
use Rattle.operator_lowering.proofs.Constants.{one}
use Rattle.operator_lowering.proofs.Norms.{IsStage, halved, norm_by, bits_are, right_of}
use Rattle.operator_lowering.proofs.Numbers.{equal_true, equal_false}
use Rattle.operator_lowering.proofs.Trees.{by_test, ends_same}

-- ---- the last half: it counts where the number is not yet in the upper half

last_pos : (m q : ℕ) → m ≤ 31 → q ≤ 1 → taken (pos (m + 1)) (pos q) ≡ pos (m + 1 - q)
unfolding taken
last_pos m q few less = grind (arith, ints)

-- the upper half begins at twice `half`, and ends at four times it
record IsWidth (k s half : ℕ) : Type 0 where
  pub sum : k + s ≡ 31
  pub low : 2 ^ k ≡ 2 * half
  pub high : 2 ^ (k + 1) ≡ 4 * half
  pub some : 0 < half
  pub most : half ≤ 536870912

module _ (k s half : ℕ) (width : IsWidth k s half) (x : ℤ) (other : x ≢ pos 0) (some : 0 < mag x) (small : mag x < 2 ^ (k + 1)) (flag : ℤ) (input : List ℤ) where
  last : (v c : ℤ) → IsStage (k + 1) (mag x) half v c → Ends (taken c (to_right v k)) flag input ≡ Ends (norm k x) flag input
  last v c stage =
      let n : ℕ = stage.number in
      let m : ℕ = stage.times in
      let most : n < 2 ^ (k + 1) = stage.most in
      let least : half ≤ n = stage.least in
      let high : 2 ^ (k + 1) ≡ 4 * half = width.high in
      let low : 2 ^ k ≡ 2 * half = width.low in
      let limit : half ≤ 536870912 = width.most in
      let right : to_right v k ≡ pos (n / 2 ^ k) = ap (λ y. to_right y k) stage.value ∙ right_of n k (omega arith) in
      let value = λ (q : ℕ) (is : n / 2 ^ k ≡ q) (less : q ≤ 1). ap (λ y. taken y (to_right v k)) stage.count ∙ ap (taken (pos (m + 1))) (right ∙ ap pos is) ∙ last_pos m q stage.few less in
      ⊎_elim
      (λ (less : n < 2 ^ k).
      let quotient : n / 2 ^ k < 1 = div_below n (2 ^ k) 1 (pow_pos k) (omega arith) in
      let none : n / 2 ^ k ≡ 0 = omega arith in
      let twice : mag x * 2 ^ (m + 1) ≡ 2 * n = once_more (mag x) m n stage.doubled in
      ends_same (value 0 none (lit≤ tt) ∙ ap pos (let e : m + 1 - 0 ≡ m + 1 = omega arith in e)
      ∙ sym (norm_by k s (m + 1) x width.sum other some small (let e : 2 ^ k ≤ mag x * 2 ^ (m + 1) = omega arith in e) (let e : mag x * 2 ^ (m + 1) < 2 ^ (k + 1) = omega arith in e))))
      (λ (more : 2 ^ k ≤ n).
      let below_two : n / 2 ^ k < 2 = div_below n (2 ^ k) 2 (pow_pos k) (omega arith) in
      let from_one : 1 ≤ n / 2 ^ k = le-div 1 n (2 ^ k) (pow_pos k) (omega arith) in
      let one_is : n / 2 ^ k ≡ 1 = omega arith in
      let whole : mag x * 2 ^ m ≡ n = sym stage.doubled in
      ends_same (value 1 one_is (lit≤ tt) ∙ ap pos (let e : m + 1 - 1 ≡ m = omega arith in e)
      ∙ sym (norm_by k s m x width.sum other some small (let e : 2 ^ k ≤ mag x * 2 ^ m = omega arith in e) (let e : mag x * 2 ^ m < 2 ^ (k + 1) = omega arith in e))))
      (cases_lt n (2 ^ k))
    where
      once_more : (u m n : ℕ) → n ≡ u * 2 ^ m → u * 2 ^ (m + 1) ≡ 2 * n
      once_more u m n e = ap (λ y. u * y) (ap (λ z. 2 ^ z) (add-one m) ∙ pow-succ' 2 m) ∙ turn u (2 ^ m) ∙ ap (λ y. 2 * y) (sym e)
        where
          turn : (u p : ℕ) → u * (2 * p) ≡ 2 * (u * p)
          turn u p = grind arith

  -- where it begins
  first : (v c : ℤ) → v ≡ pos (mag x) → c ≡ pos 1 → IsStage (k + 1) (mag x) 1 v c
  first v c is one_is = record {
    number = mag x;
    times = 0;
    value = is;
    count = one_is;
    doubled = let e : mag x ≡ mag x * 1 = omega arith in e;
    least = omega arith;
    most = small;
    few = lit≤ tt;
  }

-- ---- of 16 bits

module _ (x : ℤ) (other : x ≢ pos 0) (some : 0 < mag x) (small : mag x < 2 ^ 15) (flag : ℤ) (input : List ℤ) where
  width_s : IsWidth 14 17 8192
  width_s = record { sum = refl; low = refl; high = refl; some = lit< tt; most = lit≤ tt }

  abbrev end_s : ℤ → ℤ → Final
  end_s v c = Ends (taken c (to_right v 14)) flag input

  abbrev third_s : ℤ → ℤ → Final
  third_s v c = if not (equal (to_right v 13) (pos 0)) then end_s v c else end_s (to_left v 2) (added c (pos 2))

  abbrev second_s : ℤ → ℤ → Final
  second_s v c = if not (equal (to_right v 11) (pos 0)) then third_s v c else third_s (to_left v 4) (added c (pos 4))

  abbrev first_s : ℤ → ℤ → Final
  first_s v c = if not (equal (to_right v 7) (pos 0)) then second_s v c else second_s (to_left v 8) (added c (pos 8))

  found_s : (v c : ℤ) → v ≡ pos (mag x) → c ≡ pos 1 → first_s v c ≡ Ends (norm 14 x) flag input
  found_s v c is one_is =
      halved 15 (mag x) 1 7 8 v c (lit≤ tt) (first 14 17 8192 width_s x other some small flag input v c is one_is) (lit≤ tt) (lit< tt) (lit≤ tt) (lit< tt) second_s
      (λ v c stage. halved 15 (mag x) 128 11 4 v c (lit≤ tt) stage (lit≤ tt) (lit< tt) (lit≤ tt) (lit< tt) third_s
      (λ v c stage. halved 15 (mag x) 2048 13 2 v c (lit≤ tt) stage (lit≤ tt) (lit< tt) (lit≤ tt) (lit< tt) end_s
      (last 14 17 8192 width_s x other some small flag input)))

-- ---- of 32 bits

module _ (x : ℤ) (other : x ≢ pos 0) (some : 0 < mag x) (small : mag x < 2 ^ 31) (flag : ℤ) (input : List ℤ) where
  width_l : IsWidth 30 1 536870912
  width_l = record { sum = refl; low = refl; high = refl; some = lit< tt; most = lit≤ tt }

  abbrev end_l : ℤ → ℤ → Final
  end_l v c = Ends (taken c (to_right v 30)) flag input

  abbrev fourth_l : ℤ → ℤ → Final
  fourth_l v c = if not (equal (to_right v 29) (pos 0)) then end_l v c else end_l (to_left v 2) (added c (pos 2))

  abbrev third_l : ℤ → ℤ → Final
  third_l v c = if not (equal (to_right v 27) (pos 0)) then fourth_l v c else fourth_l (to_left v 4) (added c (pos 4))

  abbrev second_l : ℤ → ℤ → Final
  second_l v c = if not (equal (to_right v 23) (pos 0)) then third_l v c else third_l (to_left v 8) (added c (pos 8))

  abbrev first_l : ℤ → ℤ → Final
  first_l v c = if not (equal (to_right v 15) (pos 0)) then second_l v c else second_l (to_left v 16) (added c (pos 16))

  found_l : (v c : ℤ) → v ≡ pos (mag x) → c ≡ pos 1 → first_l v c ≡ Ends (norm 30 x) flag input
  found_l v c is one_is =
      halved 31 (mag x) 1 15 16 v c (lit≤ tt) (first 30 1 536870912 width_l x other some small flag input v c is one_is) (lit≤ tt) (lit< tt) (lit≤ tt) (lit< tt) second_l
      (λ v c stage. halved 31 (mag x) 32768 23 8 v c (lit≤ tt) stage (lit≤ tt) (lit< tt) (lit≤ tt) (lit< tt) third_l
      (λ v c stage. halved 31 (mag x) 8388608 27 4 v c (lit≤ tt) stage (lit≤ tt) (lit< tt) (lit≤ tt) (lit< tt) fourth_l
      (λ v c stage. halved 31 (mag x) 134217728 29 2 v c (lit≤ tt) stage (lit≤ tt) (lit< tt) (lit≤ tt) (lit< tt) end_l
      (last 30 1 536870912 width_l x other some small flag input))))

-- ---- all numbers

-- 0 and -1 have no bits of their own
none_zero : (top : ℤ) → both_bits (pos 0) top ≡ pos 0
unfolding both_bits
none_zero top = grind (arith, ints, common_steps)

all_15 : both_bits (negsuc 0) (pos 15) ≡ pos 15
unfolding both_bits
all_15 = refl

all_31 : both_bits (negsuc 0) (pos 31) ≡ pos 31
unfolding both_bits
all_31 = refl

special_s : (a : ℤ) → mag a ≡ 0 → both_bits a (pos 15) ≡ norm 14 a
special_s (pos n) e = ap (λ m. both_bits (pos m) (pos 15)) e ∙ none_zero (pos 15) ∙ ap (λ m. norm 14 (pos m)) (sym e)
special_s (negsuc n) e = ap (λ m. both_bits (negsuc m) (pos 15)) e ∙ all_15 ∙ ap (λ m. norm 14 (negsuc m)) (sym e)

special_l : (a : ℤ) → mag a ≡ 0 → both_bits a (pos 31) ≡ norm 30 a
special_l (pos n) e = ap (λ m. both_bits (pos m) (pos 31)) e ∙ none_zero (pos 31) ∙ ap (λ m. norm 30 (pos m)) (sym e)
special_l (negsuc n) e = ap (λ m. both_bits (negsuc m) (pos 31)) e ∙ all_31 ∙ ap (λ m. norm 30 (negsuc m)) (sym e)

long_of_short : (a : ℤ) → FitsSigned w16 a → FitsSigned w32 a
long_of_short a fits = grind (arith, ints)

not_zero : (a : ℤ) → 0 < mag a → a ≢ pos 0
not_zero a some e = let none : mag a ≡ 0 = ap mag e in absurd (omega arith)

abbrev own : ℤ → ℤ
own a = other_bits a (to_right_signed a 31)

no_bits : (a : ℤ) → own a ≡ pos (mag a) → equal (own a) (pos 0) ≡ true → mag a ≡ 0
no_bits a is e = let same : pos (mag a) ≡ pos 0 = sym is ∙ equal_true _ _ e in cc

some_bits : (a : ℤ) → own a ≡ pos (mag a) → equal (own a) (pos 0) ≡ false → 0 < mag a
some_bits a is e = ⊎_elim (λ (less : 0 < mag a). less) (λ (none : mag a ≤ 0). absurd (equal_false _ _ e (is ∙ ap pos (omega arith)))) (cases_lt 0 (mag a))

found_short : (in_place : Bool) (a b c flag : ℤ) (input : List ℤ) → FitsSigned w16 a → runs NORM_S 0 (begun (apart_of Straight in_place) false false a b c flag input) ≡ Ends (norm 14 a) flag input
found_short in_place a b c flag input fits =
    let bits = bits_are a (long_of_short a fits) in
    by_test (equal (own a) (pos 0)) (λ e. ends_same (special_s a (no_bits a bits.0 e)))
    (λ e. let some = some_bits a bits.0 e in found_s a (not_zero a some) some fits.sfits flag input (own a) (added (pos 0) (pos 1)) bits.0 one)

found_long : (in_place : Bool) (a b c flag : ℤ) (input : List ℤ) → FitsSigned w32 a → runs NORM_L 0 (begun (apart_of Straight in_place) false false a b c flag input) ≡ Ends (norm 30 a) flag input
found_long in_place a b c flag input fits =
    let bits = bits_are a fits in
    by_test (equal (own a) (pos 0)) (λ e. ends_same (special_l a (no_bits a bits.0 e)))
    (λ e. let some = some_bits a bits.0 e in found_l a (not_zero a some) some fits.sfits flag input (own a) (added (pos 0) (pos 1)) bits.0 one)

pub norm_s : (form : Form) (guard : Guard) → IsCourse (Call op.NormS) form guard
norm_s Plain guard in_place site a b c flag input small asked = found_short in_place a b c flag input asked.fit.0
norm_s Clamp guard in_place site a b c flag input small asked = found_short in_place a b c flag input asked.fit.0
norm_s Flag guard in_place site a b c flag input small asked = found_short in_place a b c flag input asked.fit.0

pub norm_l : (form : Form) (guard : Guard) → IsCourse (Call op.NormL) form guard
norm_l Plain guard in_place site a b c flag input small asked = found_long in_place a b c flag input asked.fit.0
norm_l Clamp guard in_place site a b c flag input small asked = found_long in_place a b c flag input asked.fit.0
norm_l Flag guard in_place site a b c flag input small asked = found_long in_place a b c flag input asked.fit.0
