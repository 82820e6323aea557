-- The courses of sums and differences.
use Rattle.std.proofs.Common.{◌≡◌, ℤ, pos, negsuc, ◌+ℤ◌, ◌-ℤ◌, ◌≤ℤ◌, ◌<ℤ◌, true, false, refl, sym, ap, ◌∙◌, arith}
use Rattle.std.specs.Prelude.{FitsSigned}
use Rattle.std.specs.Int.{w16, w32}
use Rattle.std.proofs.lemmas.Int.{ints}
use Rattle.sat_base.specs.Clip.{clip16}
use Rattle.operator_meaning.specs.Clipping.{changes16, changes32}
use Rattle.operator_meaning.specs.declared.operator.Op.TheVariants as op
use Rattle.operator_meaning.specs.declared.site.SiteKind.TheVariants.{Call}
use Rattle.operator_meaning.specs.declared.site.Form.{Form}
use Rattle.operator_meaning.specs.declared.site.Form.TheVariants.{Plain, Clamp, Flag}
use Rattle.operator_meaning.specs.declared.site.Guard.{Guard}
use Rattle.template_runs.specs.Values.{added, taken, less, equal, other_bits, upper, to_right_signed}
use Rattle.operator_lowering.specs.Courses.{IsCourse}
use Rattle.operator_lowering.proofs.Numbers.{less_true, less_false, equal_true, equal_false, kept16, above16, below16, by_range16, by_range32, kept32, range_of_kept16, range_of_kept32}
use Rattle.operator_lowering.proofs.Sums.{IsExact, IsWrapped, exact, wrapped, added_wraps, taken_wraps, added_within, taken_within, low_half, half_within, half_above, half_below, sign_negative, sign_positive}
use Rattle.operator_lowering.proofs.Trees.{by_test, by_turned, ends_same, ends_kept, ends_changed}

-- ---- by the sign of the second operand, a sum is exact where it is on the right side of the first

module _ (a b : ℤ) (fits_a : FitsSigned w32 a) (fits_b : FitsSigned w32 b) where
  abbrev s : ℤ
  s = added a b

  pub up_exact : less b (pos 0) ≡ false → less s a ≡ false → IsExact (a +ℤ b) s
  up_exact sign test =
      let p = less_false _ _ sign in
      let q = less_false _ _ test in
      exact (a +ℤ b) s (added_wraps a b fits_a fits_b) (λ over is. grind (arith, ints)) (λ under is. grind (arith, ints))

  pub up_wrapped : less b (pos 0) ≡ false → less s a ≡ true → IsWrapped (a +ℤ b) s
  up_wrapped sign test =
      let p = less_false _ _ sign in
      let q = less_true _ _ test in
      wrapped (a +ℤ b) s (added_wraps a b fits_a fits_b) (λ inside is. grind (arith, ints))

  pub down_exact : less b (pos 0) ≡ true → less s a ≡ true → IsExact (a +ℤ b) s
  down_exact sign test =
      let p = less_true _ _ sign in
      let q = less_true _ _ test in
      exact (a +ℤ b) s (added_wraps a b fits_a fits_b) (λ over is. grind (arith, ints)) (λ under is. grind (arith, ints))

  pub down_wrapped : less b (pos 0) ≡ true → less s a ≡ false → IsWrapped (a +ℤ b) s
  down_wrapped sign test =
      let p = less_true _ _ sign in
      let q = less_false _ _ test in
      wrapped (a +ℤ b) s (added_wraps a b fits_a fits_b) (λ inside is. grind (arith, ints))

  -- at which end a sum wrapped
  pub up_over : less b (pos 0) ≡ false → less s a ≡ true → pos 2147483647 <ℤ (a +ℤ b)
  up_over sign test =
      let p = less_false _ _ sign in
      let q = less_true _ _ test in
      by_range32 (a +ℤ b) (λ low high. absurd (not_inside p q (added_within a b fits_a fits_b low high))) (λ over. over) (λ under. absurd (not_under p under))
    where
      not_inside : pos 0 ≤ℤ b → s <ℤ a → s ≡ a +ℤ b → ⊥
      not_inside p q is = grind (arith, ints)

      not_under : pos 0 ≤ℤ b → (a +ℤ b) <ℤ negsuc 2147483647 → ⊥
      not_under p under = grind (arith, ints)

  pub down_under : less b (pos 0) ≡ true → less s a ≡ false → (a +ℤ b) <ℤ negsuc 2147483647
  down_under sign test =
      let p = less_true _ _ sign in
      let q = less_false _ _ test in
      by_range32 (a +ℤ b) (λ low high. absurd (not_inside p q (added_within a b fits_a fits_b low high))) (λ over. absurd (not_over p over)) (λ under. under)
    where
      not_inside : b <ℤ pos 0 → a ≤ℤ s → s ≡ a +ℤ b → ⊥
      not_inside p q is = grind (arith, ints)

      not_over : b <ℤ pos 0 → pos 2147483647 <ℤ (a +ℤ b) → ⊥
      not_over p over = grind (arith, ints)

pub l_add : (form : Form) (guard : Guard) → IsCourse (Call op.LAdd) form guard
l_add Plain guard in_place site a b c flag input small asked =
    let fits = asked.fit in
    let range = range_of_kept32 (a +ℤ b) (asked.unclipped refl) in
    let k = kept32 (a +ℤ b) range.0 range.1 in
    ends_same (added_within a b fits.0 fits.1.0 range.0 range.1 ∙ k.0)
l_add Clamp guard true site a b c flag input small asked =
    let fits = asked.fit in
    by_test (less b (pos 0))
    (λ sign. by_test (less (added a b) a) (λ t. ends_same (down_exact a b fits.0 fits.1.0 sign t).0) (λ t. ends_same (down_wrapped a b fits.0 fits.1.0 sign t).0))
    (λ sign. by_turned (less (added a b) a) (λ t. ends_same (up_wrapped a b fits.0 fits.1.0 sign t).0) (λ t. ends_same (up_exact a b fits.0 fits.1.0 sign t).0))
l_add Clamp guard false site a b c flag input small asked =
    let fits = asked.fit in
    by_test (less b (pos 0))
    (λ sign. by_test (less (added a b) a) (λ t. ends_same (down_exact a b fits.0 fits.1.0 sign t).0) (λ t. ends_same (down_wrapped a b fits.0 fits.1.0 sign t).0))
    (λ sign. by_turned (less (added a b) a) (λ t. ends_same (up_wrapped a b fits.0 fits.1.0 sign t).0) (λ t. ends_same (up_exact a b fits.0 fits.1.0 sign t).0))
l_add Flag guard true site a b c flag input small asked =
    let fits = asked.fit in
    let clip = changes32 (a +ℤ b) in
    by_test (less b (pos 0))
    (λ sign. by_test (less (added a b) a) (λ t. let k = down_exact a b fits.0 fits.1.0 sign t in ends_kept flag clip k.0 k.1) (λ t. let k = down_wrapped a b fits.0 fits.1.0 sign t in ends_changed flag clip k.0 k.1))
    (λ sign. by_turned (less (added a b) a) (λ t. let k = up_wrapped a b fits.0 fits.1.0 sign t in ends_changed flag clip k.0 k.1) (λ t. let k = up_exact a b fits.0 fits.1.0 sign t in ends_kept flag clip k.0 k.1))
l_add Flag guard false site a b c flag input small asked =
    let fits = asked.fit in
    let clip = changes32 (a +ℤ b) in
    by_test (less b (pos 0))
    (λ sign. by_test (less (added a b) a) (λ t. let k = down_exact a b fits.0 fits.1.0 sign t in ends_kept flag clip k.0 k.1) (λ t. let k = down_wrapped a b fits.0 fits.1.0 sign t in ends_changed flag clip k.0 k.1))
    (λ sign. by_turned (less (added a b) a) (λ t. let k = up_wrapped a b fits.0 fits.1.0 sign t in ends_changed flag clip k.0 k.1) (λ t. let k = up_exact a b fits.0 fits.1.0 sign t in ends_kept flag clip k.0 k.1))

-- ---- and a difference

module _ (a b : ℤ) (fits_a : FitsSigned w32 a) (fits_b : FitsSigned w32 b) where
  abbrev d : ℤ
  d = taken a b

  pub down_by : less b (pos 0) ≡ false → less a d ≡ false → IsExact (a -ℤ b) d
  down_by sign test =
      let p = less_false _ _ sign in
      let q = less_false _ _ test in
      exact (a -ℤ b) d (taken_wraps a b fits_a fits_b) (λ over is. grind (arith, ints)) (λ under is. grind (arith, ints))

  pub down_past : less b (pos 0) ≡ false → less a d ≡ true → IsWrapped (a -ℤ b) d
  down_past sign test =
      let p = less_false _ _ sign in
      let q = less_true _ _ test in
      wrapped (a -ℤ b) d (taken_wraps a b fits_a fits_b) (λ inside is. grind (arith, ints))

  pub up_by : less b (pos 0) ≡ true → less a d ≡ true → IsExact (a -ℤ b) d
  up_by sign test =
      let p = less_true _ _ sign in
      let q = less_true _ _ test in
      exact (a -ℤ b) d (taken_wraps a b fits_a fits_b) (λ over is. grind (arith, ints)) (λ under is. grind (arith, ints))

  pub up_past : less b (pos 0) ≡ true → less a d ≡ false → IsWrapped (a -ℤ b) d
  up_past sign test =
      let p = less_true _ _ sign in
      let q = less_false _ _ test in
      wrapped (a -ℤ b) d (taken_wraps a b fits_a fits_b) (λ inside is. grind (arith, ints))

  -- at which end a difference wrapped
  pub less_under : less b (pos 0) ≡ false → less a d ≡ true → (a -ℤ b) <ℤ negsuc 2147483647
  less_under sign test =
      let p = less_false _ _ sign in
      let q = less_true _ _ test in
      by_range32 (a -ℤ b) (λ low high. absurd (not_inside p q (taken_within a b fits_a fits_b low high))) (λ over. absurd (not_over p over)) (λ under. under)
    where
      not_inside : pos 0 ≤ℤ b → a <ℤ d → d ≡ a -ℤ b → ⊥
      not_inside p q is = grind (arith, ints)

      not_over : pos 0 ≤ℤ b → pos 2147483647 <ℤ (a -ℤ b) → ⊥
      not_over p over = grind (arith, ints)

  pub less_over : less b (pos 0) ≡ true → less a d ≡ false → pos 2147483647 <ℤ (a -ℤ b)
  less_over sign test =
      let p = less_true _ _ sign in
      let q = less_false _ _ test in
      by_range32 (a -ℤ b) (λ low high. absurd (not_inside p q (taken_within a b fits_a fits_b low high))) (λ over. over) (λ under. absurd (not_under p under))
    where
      not_inside : b <ℤ pos 0 → d ≤ℤ a → d ≡ a -ℤ b → ⊥
      not_inside p q is = grind (arith, ints)

      not_under : b <ℤ pos 0 → (a -ℤ b) <ℤ negsuc 2147483647 → ⊥
      not_under p under = grind (arith, ints)

pub l_sub : (form : Form) (guard : Guard) → IsCourse (Call op.LSub) form guard
l_sub Plain guard in_place site a b c flag input small asked =
    let fits = asked.fit in
    let range = range_of_kept32 (a -ℤ b) (asked.unclipped refl) in
    let k = kept32 (a -ℤ b) range.0 range.1 in
    ends_same (taken_within a b fits.0 fits.1.0 range.0 range.1 ∙ k.0)
l_sub Clamp guard true site a b c flag input small asked =
    let fits = asked.fit in
    by_test (less b (pos 0))
    (λ sign. by_test (less a (taken a b)) (λ t. ends_same (up_by a b fits.0 fits.1.0 sign t).0) (λ t. ends_same (up_past a b fits.0 fits.1.0 sign t).0))
    (λ sign. by_turned (less a (taken a b)) (λ t. ends_same (down_past a b fits.0 fits.1.0 sign t).0) (λ t. ends_same (down_by a b fits.0 fits.1.0 sign t).0))
l_sub Clamp guard false site a b c flag input small asked =
    let fits = asked.fit in
    by_test (less b (pos 0))
    (λ sign. by_test (less a (taken a b)) (λ t. ends_same (up_by a b fits.0 fits.1.0 sign t).0) (λ t. ends_same (up_past a b fits.0 fits.1.0 sign t).0))
    (λ sign. by_turned (less a (taken a b)) (λ t. ends_same (down_past a b fits.0 fits.1.0 sign t).0) (λ t. ends_same (down_by a b fits.0 fits.1.0 sign t).0))
l_sub Flag guard true site a b c flag input small asked =
    let fits = asked.fit in
    let clip = changes32 (a -ℤ b) in
    by_test (less b (pos 0))
    (λ sign. by_test (less a (taken a b)) (λ t. let k = up_by a b fits.0 fits.1.0 sign t in ends_kept flag clip k.0 k.1) (λ t. let k = up_past a b fits.0 fits.1.0 sign t in ends_changed flag clip k.0 k.1))
    (λ sign. by_turned (less a (taken a b)) (λ t. let k = down_past a b fits.0 fits.1.0 sign t in ends_changed flag clip k.0 k.1) (λ t. let k = down_by a b fits.0 fits.1.0 sign t in ends_kept flag clip k.0 k.1))
l_sub Flag guard false site a b c flag input small asked =
    let fits = asked.fit in
    let clip = changes32 (a -ℤ b) in
    by_test (less b (pos 0))
    (λ sign. by_test (less a (taken a b)) (λ t. let k = up_by a b fits.0 fits.1.0 sign t in ends_kept flag clip k.0 k.1) (λ t. let k = up_past a b fits.0 fits.1.0 sign t in ends_changed flag clip k.0 k.1))
    (λ sign. by_turned (less a (taken a b)) (λ t. let k = down_past a b fits.0 fits.1.0 sign t in ends_changed flag clip k.0 k.1) (λ t. let k = down_by a b fits.0 fits.1.0 sign t in ends_kept flag clip k.0 k.1))

-- ---- a number of 17 bits, clipped to 16: its low half tells

abbrev other_end16 : ℤ → ℤ
other_end16 half = other_bits (upper 0xffff8) (to_right_signed half 31)

greatest16 : other_bits (upper 0xffff8) (negsuc 0) ≡ pos 32767
unfolding other_bits upper
greatest16 = refl

least16 : other_bits (upper 0xffff8) (pos 0) ≡ negsuc 32767
unfolding other_bits upper
least16 = refl

module _ (t v : ℤ) (is : v ≡ t) (low : negsuc 65535 ≤ℤ t) (high : t ≤ℤ pos 65535) where
  same_half : equal (low_half v) v ≡ true → (v ≡ clip16 t) × (changes16 t ≡ false)
  same_half e =
      let same : low_half t ≡ t = ap low_half (sym is) ∙ equal_true _ _ e ∙ is in
      by_range16 t (λ more fewer. let k = kept16 t more fewer in (is ∙ k.0, k.1))
      (λ above. absurd (let f = half_above t above high in not_above (sym f ∙ same)))
      (λ below. absurd (let f = half_below t low below in not_below (sym f ∙ same)))
    where
      not_above : t -ℤ pos 65536 ≡ t → ⊥
      not_above e = grind (arith, ints)

      not_below : t +ℤ pos 65536 ≡ t → ⊥
      not_below e = grind (arith, ints)

  other_half : equal (low_half v) v ≡ false → (other_end16 (low_half v) ≡ clip16 t) × (changes16 t ≡ true)
  other_half e =
      let half : low_half v ≡ low_half t = ap low_half is in
      by_range16 t (λ more fewer. absurd (equal_false _ _ e (half ∙ half_within t more fewer ∙ sym is)))
      (λ above. let k = above16 t above in let sign = negative above in
      (ap other_end16 (half ∙ half_above t above high) ∙ ap (other_bits (upper 0xffff8)) (sign_negative (t -ℤ pos 65536) sign.0 sign.1) ∙ greatest16 ∙ k.0, k.1))
      (λ below. let k = below16 t below in let sign = positive below in
      (ap other_end16 (half ∙ half_below t low below) ∙ ap (other_bits (upper 0xffff8)) (sign_positive (t +ℤ pos 65536) sign.0 sign.1) ∙ least16 ∙ k.0, k.1))
    where
      negative : pos 32767 <ℤ t → (negsuc 2147483647 ≤ℤ (t -ℤ pos 65536)) × ((t -ℤ pos 65536) <ℤ pos 0)
      negative above = (grind (arith, ints), grind (arith, ints))

      positive : t <ℤ negsuc 32767 → (pos 0 ≤ℤ (t +ℤ pos 65536)) × ((t +ℤ pos 65536) ≤ℤ pos 2147483647)
      positive below = (grind (arith, ints), grind (arith, ints))

sum_of_shorts : (a b : ℤ) → FitsSigned w16 a → FitsSigned w16 b → (added a b ≡ a +ℤ b) × (negsuc 65535 ≤ℤ (a +ℤ b)) × ((a +ℤ b) ≤ℤ pos 65535)
unfolding added
sum_of_shorts a b fits_a fits_b = (grind (arith, ints), grind (arith, ints), grind (arith, ints))

difference_of_shorts : (a b : ℤ) → FitsSigned w16 a → FitsSigned w16 b → (taken a b ≡ a -ℤ b) × (negsuc 65535 ≤ℤ (a -ℤ b)) × ((a -ℤ b) ≤ℤ pos 65535)
unfolding taken
difference_of_shorts a b fits_a fits_b = (grind (arith, ints), grind (arith, ints), grind (arith, ints))

pub add : (form : Form) (guard : Guard) → IsCourse (Call op.Add) form guard
add Plain guard in_place site a b c flag input small asked =
    let fits = asked.fit in
    let is = sum_of_shorts a b fits.0 fits.1.0 in
    let range = range_of_kept16 (a +ℤ b) (asked.unclipped refl) in
    ends_same (is.0 ∙ (kept16 (a +ℤ b) range.0 range.1).0)
add Clamp guard in_place site a b c flag input small asked =
    let fits = asked.fit in
    let is = sum_of_shorts a b fits.0 fits.1.0 in
    by_test (equal (low_half (added a b)) (added a b)) (λ e. ends_same (same_half (a +ℤ b) (added a b) is.0 is.1 is.2 e).0) (λ e. ends_same (other_half (a +ℤ b) (added a b) is.0 is.1 is.2 e).0)
add Flag guard in_place site a b c flag input small asked =
    let fits = asked.fit in
    let is = sum_of_shorts a b fits.0 fits.1.0 in
    let clip = changes16 (a +ℤ b) in
    by_test (equal (low_half (added a b)) (added a b)) (λ e. let k = same_half (a +ℤ b) (added a b) is.0 is.1 is.2 e in ends_kept flag clip k.0 k.1)
    (λ e. let k = other_half (a +ℤ b) (added a b) is.0 is.1 is.2 e in ends_changed flag clip k.0 k.1)

pub sub : (form : Form) (guard : Guard) → IsCourse (Call op.Sub) form guard
sub Plain guard in_place site a b c flag input small asked =
    let fits = asked.fit in
    let is = difference_of_shorts a b fits.0 fits.1.0 in
    let range = range_of_kept16 (a -ℤ b) (asked.unclipped refl) in
    ends_same (is.0 ∙ (kept16 (a -ℤ b) range.0 range.1).0)
sub Clamp guard in_place site a b c flag input small asked =
    let fits = asked.fit in
    let is = difference_of_shorts a b fits.0 fits.1.0 in
    by_test (equal (low_half (taken a b)) (taken a b)) (λ e. ends_same (same_half (a -ℤ b) (taken a b) is.0 is.1 is.2 e).0) (λ e. ends_same (other_half (a -ℤ b) (taken a b) is.0 is.1 is.2 e).0)
sub Flag guard in_place site a b c flag input small asked =
    let fits = asked.fit in
    let is = difference_of_shorts a b fits.0 fits.1.0 in
    let clip = changes16 (a -ℤ b) in
    by_test (equal (low_half (taken a b)) (taken a b)) (λ e. let k = same_half (a -ℤ b) (taken a b) is.0 is.1 is.2 e in ends_kept flag clip k.0 k.1)
    (λ e. let k = other_half (a -ℤ b) (taken a b) is.0 is.1 is.2 e in ends_changed flag clip k.0 k.1)
