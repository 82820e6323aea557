-- The courses of halves, magnitudes and opposites.
use Rattle.std.proofs.Common.{◌≡◌, ◌≢◌, ℕ, suc, ◌+◌, ◌-◌, ◌%◌, ℤ, pos, negsuc, ◌-ℤ◌, ◌*ℤ◌, ◌≤ℤ◌, ◌<ℤ◌, neg_ℤ, true, refl, sym, ap, ◌∙◌, arith}
use Rattle.std.specs.Prelude.{FitsSigned, unsigned_abs}
use Rattle.std.specs.Int.{w16, w32, cast_signed, int_rem_euclid}
use Rattle.std.proofs.lemmas.Int.{ints}
use Rattle.sat_base.specs.Clip.{clip16, clip32, low16}
use Rattle.sat_base.proofs.Low.{low16_by_remainder}
use Rattle.operator_meaning.specs.Value.{floor}
use Rattle.operator_meaning.specs.declared.operator.Op.TheVariants as op
use Rattle.operator_meaning.specs.declared.site.SiteKind.TheVariants.{Call}
use Rattle.operator_meaning.specs.declared.site.Form.{Form}
use Rattle.operator_meaning.specs.declared.site.Form.TheVariants.{Plain, Clamp, Flag}
use Rattle.operator_meaning.specs.declared.site.Guard.{Guard}
use Rattle.template_runs.specs.Values.{added, taken, less, equal, upper, multiplied, any_bits, to_left, to_right, to_right_signed}
use Rattle.operator_lowering.specs.Courses.{IsCourse}
use Rattle.operator_lowering.proofs.Numbers.{less_true, less_false, equal_true, equal_false, kept16, above16, kept32, above32, by_range16, by_range32, range_of_kept16, range_of_kept32}
use Rattle.operator_lowering.proofs.Trees.{by_turned, ends_same}

-- ---- halves

upper_half : (a : ℤ) → FitsSigned w32 a → to_right_signed a 16 ≡ floor a 65536
unfolding to_right_signed
upper_half a fits = grind (arith, ints)

lower_pos : (a n : ℕ) → FitsSigned w32 (pos a) → n ≡ a % 65536 → to_right_signed (to_left (pos a) 16) 16 ≡ cast_signed w16 n
unfolding to_right_signed to_left
lower_pos a n fits e = grind (arith, ints)

lower_neg : (a n : ℕ) → FitsSigned w32 (negsuc a) → n ≡ 65536 - 1 - a % 65536 → to_right_signed (to_left (negsuc a) 16) 16 ≡ cast_signed w16 n
unfolding to_right_signed to_left
lower_neg a n fits e = grind (arith, ints)

lower_half : (a : ℤ) → FitsSigned w32 a → to_right_signed (to_left a 16) 16 ≡ low16 a
lower_half (pos a) fits =
    let by = low16_by_remainder (pos a) (int_rem_euclid (pos a) (pos 65536)) refl in
    let e : by.0 ≡ a % 65536 = let f = by.1 in cc in
    lower_pos a by.0 fits e ∙ sym by.3
lower_half (negsuc a) fits =
    let by = low16_by_remainder (negsuc a) (int_rem_euclid (negsuc a) (pos 65536)) refl in
    let e : by.0 ≡ 65536 - 1 - a % 65536 = let f = by.1 in cc in
    lower_neg a by.0 fits e ∙ sym by.3

raised_half : (a : ℤ) → FitsSigned w16 a → to_left a 16 ≡ pos 65536 *ℤ a
unfolding to_left
raised_half a fits = grind (arith, ints)

pub extract_h : (form : Form) (guard : Guard) → IsCourse (Call op.ExtractH) form guard
extract_h Plain guard in_place site a b c flag input small asked = ends_same (upper_half a asked.fit.0)
extract_h Clamp guard in_place site a b c flag input small asked = ends_same (upper_half a asked.fit.0)
extract_h Flag guard in_place site a b c flag input small asked = ends_same (upper_half a asked.fit.0)

pub extract_l : (form : Form) (guard : Guard) → IsCourse (Call op.ExtractL) form guard
extract_l Plain guard in_place site a b c flag input small asked = ends_same (lower_half a asked.fit.0)
extract_l Clamp guard in_place site a b c flag input small asked = ends_same (lower_half a asked.fit.0)
extract_l Flag guard in_place site a b c flag input small asked = ends_same (lower_half a asked.fit.0)

pub l_deposit_h : (form : Form) (guard : Guard) → IsCourse (Call op.LDepositH) form guard
l_deposit_h Plain guard in_place site a b c flag input small asked = ends_same (raised_half a asked.fit.0)
l_deposit_h Clamp guard in_place site a b c flag input small asked = ends_same (raised_half a asked.fit.0)
l_deposit_h Flag guard in_place site a b c flag input small asked = ends_same (raised_half a asked.fit.0)

pub l_deposit_l : (form : Form) (guard : Guard) → IsCourse (Call op.LDepositL) form guard
l_deposit_l Plain guard in_place site a b c flag input small asked = refl
l_deposit_l Clamp guard in_place site a b c flag input small asked = refl
l_deposit_l Flag guard in_place site a b c flag input small asked = refl

-- ---- magnitudes

one_of_sign : any_bits (pos 0) (pos 1) ≡ pos 1
unfolding any_bits
one_of_sign = refl

minus_one_of_sign : any_bits (negsuc 0) (pos 1) ≡ negsuc 0
unfolding any_bits
minus_one_of_sign = refl

times_one : (n : ℕ) → FitsSigned w32 (pos n) → multiplied (pos n) (pos 1) ≡ pos n
unfolding multiplied
times_one n fits = grind (arith, ints)

times_minus_one : (n : ℕ) → FitsSigned w32 (negsuc n) → pos (n + 1) ≤ℤ pos 2147483647 → multiplied (negsuc n) (negsuc 0) ≡ pos (n + 1)
unfolding multiplied
times_minus_one n fits less = grind (arith, ints)

negative_sign : (n : ℕ) → FitsSigned w32 (negsuc n) → to_right_signed (negsuc n) 31 ≡ negsuc 0
unfolding to_right_signed
negative_sign n fits = grind (arith, ints)

positive_sign : (n : ℕ) → FitsSigned w32 (pos n) → to_right_signed (pos n) 31 ≡ pos 0
unfolding to_right_signed
positive_sign n fits = grind (arith, ints)

magnitude : (a : ℤ) → FitsSigned w32 a → pos (unsigned_abs a) ≤ℤ pos 2147483647 → multiplied a (any_bits (to_right_signed a 31) (pos 1)) ≡ pos (unsigned_abs a)
magnitude (pos n) fits less = ap (λ s. multiplied (pos n) (any_bits s (pos 1))) (positive_sign n fits) ∙ ap (multiplied (pos n)) one_of_sign ∙ times_one n fits
magnitude (negsuc n) fits less =
    ap (λ s. multiplied (negsuc n) (any_bits s (pos 1))) (negative_sign n fits) ∙ ap (multiplied (negsuc n)) minus_one_of_sign ∙ times_minus_one n fits (more less)
    ∙ ap pos (let e : n + 1 ≡ suc n = omega arith in e)
  where
    more : pos (unsigned_abs (negsuc n)) ≤ℤ pos 2147483647 → pos (n + 1) ≤ℤ pos 2147483647
    more less = grind (arith, ints)

long_of_short : (a : ℤ) → FitsSigned w16 a → FitsSigned w32 a
long_of_short a fits = grind (arith, ints)

abs_positive : (a : ℤ) → pos 0 ≤ℤ a → pos (unsigned_abs a) ≡ a
abs_positive (pos n) low = refl
abs_positive (negsuc n) low = absurd (grind (arith, ints))

abs_negative : (a : ℤ) → a <ℤ pos 0 → pos (unsigned_abs a) ≡ pos 0 -ℤ a
abs_negative (pos n) high = absurd (grind (arith, ints))
abs_negative (negsuc n) high = grind (arith, ints)

-- the opposite of a negative number, and less 1 where it is one too great
opposite_is : (a : ℤ) → FitsSigned w32 a → negsuc 2147483646 ≤ℤ a → taken (pos 0) a ≡ pos 0 -ℤ a
unfolding taken
opposite_is a fits low = grind (arith, ints)

least_opposite : taken (pos 0) (negsuc 2147483647) ≡ negsuc 2147483647
unfolding taken
least_opposite = refl

less_none : (v : ℤ) → FitsSigned w32 v → taken v (pos 0) ≡ v
unfolding taken
less_none v fits = grind (arith, ints)

no_bit : (v : ℤ) → pos 0 ≤ℤ v → v ≤ℤ pos 32767 → to_right v 15 ≡ pos 0
unfolding to_right
no_bit v low high = grind (arith, ints)

no_sign : (v : ℤ) → pos 0 ≤ℤ v → v ≤ℤ pos 2147483647 → to_right v 31 ≡ pos 0
unfolding to_right
no_sign v low high = grind (arith, ints)

one_less16 : taken (pos 32768) (to_right (pos 32768) 15) ≡ pos 32767
unfolding taken to_right
one_less16 = refl

one_less32 : taken (negsuc 2147483647) (to_right (negsuc 2147483647) 31) ≡ pos 2147483647
unfolding taken to_right
one_less32 = refl

abbrev turned16 : ℤ → ℤ
turned16 v = taken v (to_right v 15)

abbrev turned32 : ℤ → ℤ
turned32 v = taken v (to_right v 31)

turned16_is : (a : ℤ) → FitsSigned w16 a → a <ℤ pos 0 → turned16 (taken (pos 0) a) ≡ clip16 (pos (unsigned_abs a))
turned16_is a fits high =
    let v = pos 0 -ℤ a in
    let is : taken (pos 0) a ≡ v = opposite_is a (long_of_short a fits) (low fits) in
    ap turned16 is
    ∙ by_range16 v
    (λ low above. ap (taken v) (no_bit v (positive high) above) ∙ less_none v (fits_more fits) ∙ (kept16 v low above).0)
    (λ over. ap turned16 (last over fits) ∙ one_less16 ∙ (above16 v over).0)
    (λ under. absurd (not_under under high))
    ∙ ap clip16 (sym (abs_negative a high))
  where
    low : FitsSigned w16 a → negsuc 2147483646 ≤ℤ a
    low fits = grind (arith, ints)

    positive : a <ℤ pos 0 → pos 0 ≤ℤ (pos 0 -ℤ a)
    positive high = grind (arith, ints)

    fits_more : FitsSigned w16 a → FitsSigned w32 (pos 0 -ℤ a)
    fits_more fits = grind (arith, ints)

    last : pos 32767 <ℤ (pos 0 -ℤ a) → FitsSigned w16 a → pos 0 -ℤ a ≡ pos 32768
    last over fits = grind (arith, ints)

    not_under : (pos 0 -ℤ a) <ℤ negsuc 32767 → a <ℤ pos 0 → ⊥
    not_under under high = grind (arith, ints)

turned32_is : (a : ℤ) → FitsSigned w32 a → a <ℤ pos 0 → turned32 (taken (pos 0) a) ≡ clip32 (pos (unsigned_abs a))
turned32_is a fits high =
    let v = pos 0 -ℤ a in
    by_range32 v
    (λ low above. ap turned32 (opposite_is a fits (more above)) ∙ ap (taken v) (no_sign v (positive high) above) ∙ less_none v (fits_more low above) ∙ (kept32 v low above).0)
    (λ over. ap turned32 (ap (taken (pos 0)) (last over fits) ∙ least_opposite) ∙ one_less32 ∙ (above32 v over).0)
    (λ under. absurd (not_under under high))
    ∙ ap clip32 (sym (abs_negative a high))
  where
    more : (pos 0 -ℤ a) ≤ℤ pos 2147483647 → negsuc 2147483646 ≤ℤ a
    more above = grind (arith, ints)

    positive : a <ℤ pos 0 → pos 0 ≤ℤ (pos 0 -ℤ a)
    positive high = grind (arith, ints)

    fits_more : negsuc 2147483647 ≤ℤ (pos 0 -ℤ a) → (pos 0 -ℤ a) ≤ℤ pos 2147483647 → FitsSigned w32 (pos 0 -ℤ a)
    fits_more low high = grind (arith, ints)

    last : pos 2147483647 <ℤ (pos 0 -ℤ a) → FitsSigned w32 a → a ≡ negsuc 2147483647
    last over fits = grind (arith, ints)

    not_under : (pos 0 -ℤ a) <ℤ negsuc 2147483647 → a <ℤ pos 0 → ⊥
    not_under under high = grind (arith, ints)

same16 : (a : ℤ) → FitsSigned w16 a → pos 0 ≤ℤ a → a ≡ clip16 (pos (unsigned_abs a))
same16 a fits low = (kept16 a (least a fits) (most a fits)).0 ∙ ap clip16 (sym (abs_positive a low))
  where
    least : (a : ℤ) → FitsSigned w16 a → negsuc 32767 ≤ℤ a
    least a fits = grind (arith, ints)

    most : (a : ℤ) → FitsSigned w16 a → a ≤ℤ pos 32767
    most a fits = grind (arith, ints)

same32 : (a : ℤ) → FitsSigned w32 a → pos 0 ≤ℤ a → a ≡ clip32 (pos (unsigned_abs a))
same32 a fits low = (kept32 a (least a fits) (most a fits)).0 ∙ ap clip32 (sym (abs_positive a low))
  where
    least : (a : ℤ) → FitsSigned w32 a → negsuc 2147483647 ≤ℤ a
    least a fits = grind (arith, ints)

    most : (a : ℤ) → FitsSigned w32 a → a ≤ℤ pos 2147483647
    most a fits = grind (arith, ints)

less_than32 : (n : ℕ) → pos n ≤ℤ pos 32767 → pos n ≤ℤ pos 2147483647
less_than32 n less = grind (arith, ints)

pub abs_s : (form : Form) (guard : Guard) → IsCourse (Call op.AbsS) form guard
abs_s Plain guard in_place site a b c flag input small asked =
    let range = range_of_kept16 (pos (unsigned_abs a)) (asked.unclipped refl) in
    ends_same (magnitude a (long_of_short a asked.fit.0) (less_than32 (unsigned_abs a) range.1) ∙ (kept16 (pos (unsigned_abs a)) range.0 range.1).0)
abs_s Clamp guard in_place site a b c flag input small asked =
    by_turned (less a (pos 0)) (λ e. ends_same (turned16_is a asked.fit.0 (less_true _ _ e))) (λ e. ends_same (same16 a asked.fit.0 (less_false _ _ e)))
abs_s Flag guard in_place site a b c flag input small asked =
    by_turned (less a (pos 0)) (λ e. ends_same (turned16_is a asked.fit.0 (less_true _ _ e))) (λ e. ends_same (same16 a asked.fit.0 (less_false _ _ e)))

pub l_abs : (form : Form) (guard : Guard) → IsCourse (Call op.LAbs) form guard
l_abs Plain guard in_place site a b c flag input small asked =
    let range = range_of_kept32 (pos (unsigned_abs a)) (asked.unclipped refl) in
    ends_same (magnitude a asked.fit.0 range.1 ∙ (kept32 (pos (unsigned_abs a)) range.0 range.1).0)
l_abs Clamp guard in_place site a b c flag input small asked =
    by_turned (less a (pos 0)) (λ e. ends_same (turned32_is a asked.fit.0 (less_true _ _ e))) (λ e. ends_same (same32 a asked.fit.0 (less_false _ _ e)))
l_abs Flag guard in_place site a b c flag input small asked =
    by_turned (less a (pos 0)) (λ e. ends_same (turned32_is a asked.fit.0 (less_true _ _ e))) (λ e. ends_same (same32 a asked.fit.0 (less_false _ _ e)))

-- ---- opposites

upper_8 : upper 8 ≡ pos 32768
unfolding upper
upper_8 = refl

upper_sign : upper 0x80000 ≡ negsuc 2147483647
unfolding upper
upper_sign = refl

greatest16 : added (pos 32768) (negsuc 0) ≡ pos 32767
unfolding added
greatest16 = refl

greatest32 : added (negsuc 2147483647) (negsuc 0) ≡ pos 2147483647
unfolding added
greatest32 = refl

neg_is : (a : ℤ) → neg_ℤ a ≡ pos 0 -ℤ a
neg_is a = grind (arith, ints)

-- the opposite is as it is, or it is one too great
opposite16 : (a : ℤ) → FitsSigned w16 a → taken (pos 0) a ≢ pos 32768 → taken (pos 0) a ≡ clip16 (neg_ℤ a)
opposite16 a fits other =
    let is = opposite_is a (long_of_short a fits) (low fits) in
    is ∙ (kept16 (pos 0 -ℤ a) (least fits) (most fits (λ e. other (is ∙ e)))).0 ∙ ap clip16 (sym (neg_is a))
  where
    low : FitsSigned w16 a → negsuc 2147483646 ≤ℤ a
    low fits = grind (arith, ints)

    least : FitsSigned w16 a → negsuc 32767 ≤ℤ (pos 0 -ℤ a)
    least fits = grind (arith, ints)

    most : FitsSigned w16 a → (pos 0 -ℤ a ≢ pos 32768) → (pos 0 -ℤ a) ≤ℤ pos 32767
    most fits other = grind (arith, ints)

past16 : (a : ℤ) → FitsSigned w16 a → taken (pos 0) a ≡ pos 32768 → pos 32767 ≡ clip16 (neg_ℤ a)
past16 a fits e = (above16 (neg_ℤ a) (over (sym (neg_is a ∙ sym (opposite_is a (long_of_short a fits) (low fits)) ∙ e)))).0
  where
    low : FitsSigned w16 a → negsuc 2147483646 ≤ℤ a
    low fits = grind (arith, ints)

    over : pos 32768 ≡ neg_ℤ a → pos 32767 <ℤ neg_ℤ a
    over e = grind (arith, ints)

opposite32 : (a : ℤ) → FitsSigned w32 a → taken (pos 0) a ≢ negsuc 2147483647 → taken (pos 0) a ≡ clip32 (neg_ℤ a)
opposite32 a fits other =
    by_range32 (neg_ℤ a)
    (λ low high. opposite_is a fits (more high) ∙ sym (neg_is a) ∙ (kept32 (neg_ℤ a) low high).0)
    (λ over. absurd (other (ap (taken (pos 0)) (last over fits) ∙ least_opposite)))
    (λ under. absurd (not_under under fits))
  where
    more : neg_ℤ a ≤ℤ pos 2147483647 → negsuc 2147483646 ≤ℤ a
    more high = grind (arith, ints)

    last : pos 2147483647 <ℤ neg_ℤ a → FitsSigned w32 a → a ≡ negsuc 2147483647
    last over fits = grind (arith, ints)

    not_under : neg_ℤ a <ℤ negsuc 2147483647 → FitsSigned w32 a → ⊥
    not_under under fits = grind (arith, ints)

past32 : (a : ℤ) → FitsSigned w32 a → taken (pos 0) a ≡ negsuc 2147483647 → pos 2147483647 ≡ clip32 (neg_ℤ a)
past32 a fits e =
    by_range32 (neg_ℤ a)
    (λ low high. absurd (not_within low high (sym (sym (opposite_is a fits (more high) ∙ sym (neg_is a)) ∙ e)) fits))
    (λ over. (above32 (neg_ℤ a) over).0)
    (λ under. absurd (not_under under fits))
  where
    more : neg_ℤ a ≤ℤ pos 2147483647 → negsuc 2147483646 ≤ℤ a
    more high = grind (arith, ints)

    not_within : negsuc 2147483647 ≤ℤ neg_ℤ a → neg_ℤ a ≤ℤ pos 2147483647 → negsuc 2147483647 ≡ neg_ℤ a → FitsSigned w32 a → ⊥
    not_within low high e fits = grind (arith, ints)

    not_under : neg_ℤ a <ℤ negsuc 2147483647 → FitsSigned w32 a → ⊥
    not_under under fits = grind (arith, ints)

negated16 : (a : ℤ) → FitsSigned w16 a → equal (taken (pos 0) a) (upper 8) ≡ true → added (taken (pos 0) a) (negsuc 0) ≡ clip16 (neg_ℤ a)
negated16 a fits e = let is = equal_true _ _ e ∙ upper_8 in ap (λ v. added v (negsuc 0)) is ∙ greatest16 ∙ past16 a fits is

negated32 : (a : ℤ) → FitsSigned w32 a → equal (taken (pos 0) a) (upper 0x80000) ≡ true → added (taken (pos 0) a) (negsuc 0) ≡ clip32 (neg_ℤ a)
negated32 a fits e = let is = equal_true _ _ e ∙ upper_sign in ap (λ v. added v (negsuc 0)) is ∙ greatest32 ∙ past32 a fits is

pub negate : (form : Form) (guard : Guard) → IsCourse (Call op.Negate) form guard
negate Plain guard in_place site a b c flag input small asked =
    let range = range_of_kept16 (neg_ℤ a) (asked.unclipped refl) in
    ends_same (opposite_is a (long_of_short a asked.fit.0) (low range.1) ∙ sym (neg_is a) ∙ (kept16 (neg_ℤ a) range.0 range.1).0)
  where
    low : neg_ℤ a ≤ℤ pos 32767 → negsuc 2147483646 ≤ℤ a
    low high = grind (arith, ints)
negate Clamp guard in_place site a b c flag input small asked =
    by_turned (equal (taken (pos 0) a) (upper 8)) (λ e. ends_same (negated16 a asked.fit.0 e)) (λ e. ends_same (opposite16 a asked.fit.0 (λ is. equal_false _ _ e (is ∙ sym upper_8))))
negate Flag guard in_place site a b c flag input small asked =
    by_turned (equal (taken (pos 0) a) (upper 8)) (λ e. ends_same (negated16 a asked.fit.0 e)) (λ e. ends_same (opposite16 a asked.fit.0 (λ is. equal_false _ _ e (is ∙ sym upper_8))))

pub l_negate : (form : Form) (guard : Guard) → IsCourse (Call op.LNegate) form guard
l_negate Plain guard in_place site a b c flag input small asked =
    let range = range_of_kept32 (neg_ℤ a) (asked.unclipped refl) in
    ends_same (opposite_is a asked.fit.0 (low range.1) ∙ sym (neg_is a) ∙ (kept32 (neg_ℤ a) range.0 range.1).0)
  where
    low : neg_ℤ a ≤ℤ pos 2147483647 → negsuc 2147483646 ≤ℤ a
    low high = grind (arith, ints)
l_negate Clamp guard in_place site a b c flag input small asked =
    by_turned (equal (taken (pos 0) a) (upper 0x80000)) (λ e. ends_same (negated32 a asked.fit.0 e)) (λ e. ends_same (opposite32 a asked.fit.0 (λ is. equal_false _ _ e (is ∙ sym upper_sign))))
l_negate Flag guard in_place site a b c flag input small asked =
    by_turned (equal (taken (pos 0) a) (upper 0x80000)) (λ e. ends_same (negated32 a asked.fit.0 e)) (λ e. ends_same (opposite32 a asked.fit.0 (λ is. equal_false _ _ e (is ∙ sym upper_sign))))
