-- The courses of plain arithmetic, with its checks.
use Rattle.std.proofs.Common.{◌≡◌, ◌≢◌, ℤ, pos, negsuc, ◌+ℤ◌, ◌-ℤ◌, ◌≤ℤ◌, ◌<ℤ◌, neg_ℤ, Bool, true, false, ◌++◌, Some, None, refl, sym, ap, ◌∙◌, subst, arith, ⊎_elim}
use Rattle.std.specs.Prelude.{FitsSigned}
use Rattle.std.specs.Int.{w32}
use Rattle.std.proofs.lemmas.Int.{ints}
use Rattle.operator_meaning.specs.declared.site.SiteKind.TheVariants as kind
use Rattle.operator_meaning.specs.declared.site.Form.TheVariants.{Plain}
use Rattle.operator_meaning.specs.declared.site.Guard.TheVariants.{Kept, Gone}
use Rattle.template_runs.specs.Values.{added, taken, less, equal, upper}
use Rattle.template_runs.specs.Courses.{runs}
use Rattle.template_runs.specs.Machine.{begun}
use Rattle.operator_lowering.specs.declared.tables.halves.TheConstants.{NEGATE_PLAIN}
use Rattle.operator_lowering.specs.Courses.{IsCourse, apart_of}
use Rattle.operator_lowering.specs.Sites.{of_32_bits, led_to}
use Rattle.operator_lowering.specs.declared.way.Way.TheVariants.{Straight, KeepsFirst, Turns}
use Rattle.operator_lowering.specs.Words.{checked_by, sum_check, difference_check, opposite_check}
use Rattle.operator_lowering.proofs.Constants.{by_size, five}
use Rattle.operator_lowering.proofs.Leads.{between_inside, between_above, between_below, leads, halts}
use Rattle.operator_lowering.proofs.Numbers.{less_true, less_false, equal_true, equal_false, by_range32}
use Rattle.operator_lowering.proofs.Sums.{Within32, Above32, Below32, Wraps, added_wraps, taken_wraps, added_within, taken_within}
use Rattle.operator_lowering.proofs.Trees.{by_test, by_turned}

-- ---- where a number of 32 bits is exact, and where it wraps

pub gives : (t : ℤ) → Within32 t → of_32_bits t ≡ Some t
gives t range = between_inside (negsuc 2147483647) (pos 2147483647) t range.0 range.1

pub stops : (t : ℤ) → (Within32 t → ⊥) → of_32_bits t ≡ None
stops t outside =
    by_range32 t (λ low high. absurd (outside (low, high))) (λ over. between_above (negsuc 2147483647) (pos 2147483647) t over (least over))
    (λ under. between_below (negsuc 2147483647) (pos 2147483647) t under)
  where
    least : pos 2147483647 <ℤ t → negsuc 2147483647 ≤ℤ t
    least over = grind (arith, ints)

-- of a number that wraps by no more, an exact one lies inside
exact_gives : (t s : ℤ) → Wraps t s → (Above32 t → s ≡ t -ℤ pos 4294967296 → ⊥) → (Below32 t → s ≡ t +ℤ pos 4294967296 → ⊥) → (s ≡ t) × (of_32_bits t ≡ Some t)
exact_gives t s wraps no_more no_less =
    ⊎_elim (λ inside. (inside.1, gives t inside.0)) (λ outside. ⊎_elim (λ more. absurd (no_more more.0 more.1)) (λ fewer. absurd (no_less fewer.0 fewer.1)) outside) wraps

wrapped_stops : (t s : ℤ) → Wraps t s → (Within32 t → s ≡ t → ⊥) → of_32_bits t ≡ None
wrapped_stops t s wraps not_inside =
    ⊎_elim (λ inside. absurd (not_inside inside.0 inside.1)) (λ outside. stops t (λ range. ⊎_elim (λ more. past range more.0) (λ fewer. before range fewer.0) outside)) wraps
  where
    past : Within32 t → Above32 t → ⊥
    past range more = let a = range.1 in let b = more.0 in grind (arith, ints)

    before : Within32 t → Below32 t → ⊥
    before range fewer = let a = range.0 in let b = fewer.0 in grind (arith, ints)

module _ (a b : ℤ) (fits_a : FitsSigned w32 a) (fits_b : FitsSigned w32 b) where
  up_gives : less b (pos 0) ≡ false → less (added a b) a ≡ false → (added a b ≡ a +ℤ b) × (of_32_bits (a +ℤ b) ≡ Some (a +ℤ b))
  up_gives sign test =
      let p = less_false _ _ sign in
      let q = less_false _ _ test in
      exact_gives (a +ℤ b) (added a b) (added_wraps a b fits_a fits_b) (λ over is. grind (arith, ints)) (λ under is. grind (arith, ints))

  up_stops : less b (pos 0) ≡ false → less (added a b) a ≡ true → of_32_bits (a +ℤ b) ≡ None
  up_stops sign test =
      let p = less_false _ _ sign in
      let q = less_true _ _ test in
      wrapped_stops (a +ℤ b) (added a b) (added_wraps a b fits_a fits_b) (λ inside is. grind (arith, ints))

  down_gives : less b (pos 0) ≡ true → less (added a b) a ≡ true → (added a b ≡ a +ℤ b) × (of_32_bits (a +ℤ b) ≡ Some (a +ℤ b))
  down_gives sign test =
      let p = less_true _ _ sign in
      let q = less_true _ _ test in
      exact_gives (a +ℤ b) (added a b) (added_wraps a b fits_a fits_b) (λ over is. grind (arith, ints)) (λ under is. grind (arith, ints))

  down_stops : less b (pos 0) ≡ true → less (added a b) a ≡ false → of_32_bits (a +ℤ b) ≡ None
  down_stops sign test =
      let p = less_true _ _ sign in
      let q = less_false _ _ test in
      wrapped_stops (a +ℤ b) (added a b) (added_wraps a b fits_a fits_b) (λ inside is. grind (arith, ints))

  -- and a difference
  fall_gives : less b (pos 0) ≡ false → less a (taken a b) ≡ false → (taken a b ≡ a -ℤ b) × (of_32_bits (a -ℤ b) ≡ Some (a -ℤ b))
  fall_gives sign test =
      let p = less_false _ _ sign in
      let q = less_false _ _ test in
      exact_gives (a -ℤ b) (taken a b) (taken_wraps a b fits_a fits_b) (λ over is. grind (arith, ints)) (λ under is. grind (arith, ints))

  fall_stops : less b (pos 0) ≡ false → less a (taken a b) ≡ true → of_32_bits (a -ℤ b) ≡ None
  fall_stops sign test =
      let p = less_false _ _ sign in
      let q = less_true _ _ test in
      wrapped_stops (a -ℤ b) (taken a b) (taken_wraps a b fits_a fits_b) (λ inside is. grind (arith, ints))

  rise_gives : less b (pos 0) ≡ true → less a (taken a b) ≡ true → (taken a b ≡ a -ℤ b) × (of_32_bits (a -ℤ b) ≡ Some (a -ℤ b))
  rise_gives sign test =
      let p = less_true _ _ sign in
      let q = less_true _ _ test in
      exact_gives (a -ℤ b) (taken a b) (taken_wraps a b fits_a fits_b) (λ over is. grind (arith, ints)) (λ under is. grind (arith, ints))

  rise_stops : less b (pos 0) ≡ true → less a (taken a b) ≡ false → of_32_bits (a -ℤ b) ≡ None
  rise_stops sign test =
      let p = less_true _ _ sign in
      let q = less_false _ _ test in
      wrapped_stops (a -ℤ b) (taken a b) (taken_wraps a b fits_a fits_b) (λ inside is. grind (arith, ints))

-- a guard that is gone: the number lies in its range
pub within_of : (t : ℤ) → (of_32_bits t ≡ None → ⊥) → Within32 t
within_of t goes_on = by_range32 t (λ low high. (low, high)) (λ over. absurd (goes_on (stops t (λ range. past range over)))) (λ under. absurd (goes_on (stops t (λ range. before range under))))
  where
    past : Within32 t → pos 2147483647 <ℤ t → ⊥
    past range over = let a = range.1 in grind (arith, ints)

    before : Within32 t → t <ℤ negsuc 2147483647 → ⊥
    before range under = let a = range.0 in grind (arith, ints)

pub sum_gone : IsCourse kind.Sum Plain Gone
sum_gone in_place site a b c flag input small asked =
    let range = within_of (a +ℤ b) (asked.goes_on refl) in
    leads site (added_within a b asked.fit.0 asked.fit.1.0 range.0 range.1) (gives (a +ℤ b) range)

pub sum_kept : IsCourse kind.Sum Plain Kept
sum_kept true site a b c flag input small asked =
    let fa = asked.fit.0 in
    let fb = asked.fit.1.0 in
    let way = λ (b' : Bool). runs (checked_by b' (sum_check true) site) 0 (begun (apart_of Turns true) false false a b c flag input) ≡ led_to (of_32_bits (a +ℤ b)) site flag input in
    by_size site
    (λ e number. subst way (sym e)
    (by_test (less b (pos 0))
    (λ sign. by_test (less (added a b) a) (λ t. let k = down_gives a b fa fb sign t in leads site k.0 k.1) (λ t. rw five (halts site flag input number (down_stops a b fa fb sign t))))
    (λ sign. by_turned (less (added a b) a) (λ t. rw five (halts site flag input number (up_stops a b fa fb sign t))) (λ t. let k = up_gives a b fa fb sign t in leads site k.0 k.1))))
    (λ e number. subst way (sym e)
    (by_test (less b (pos 0))
    (λ sign. by_test (less (added a b) a) (λ t. let k = down_gives a b fa fb sign t in leads site k.0 k.1) (λ t. rw five (halts site flag input number (down_stops a b fa fb sign t))))
    (λ sign. by_turned (less (added a b) a) (λ t. rw five (halts site flag input number (up_stops a b fa fb sign t))) (λ t. let k = up_gives a b fa fb sign t in leads site k.0 k.1))))
    small
sum_kept false site a b c flag input small asked =
    let fa = asked.fit.0 in
    let fb = asked.fit.1.0 in
    let way = λ (b' : Bool). runs (checked_by b' (sum_check false) site) 0 (begun (apart_of Turns false) false false a b c flag input) ≡ led_to (of_32_bits (a +ℤ b)) site flag input in
    by_size site
    (λ e number. subst way (sym e)
    (by_test (less b (pos 0))
    (λ sign. by_test (less (added a b) a) (λ t. let k = down_gives a b fa fb sign t in leads site k.0 k.1) (λ t. rw five (halts site flag input number (down_stops a b fa fb sign t))))
    (λ sign. by_turned (less (added a b) a) (λ t. rw five (halts site flag input number (up_stops a b fa fb sign t))) (λ t. let k = up_gives a b fa fb sign t in leads site k.0 k.1))))
    (λ e number. subst way (sym e)
    (by_test (less b (pos 0))
    (λ sign. by_test (less (added a b) a) (λ t. let k = down_gives a b fa fb sign t in leads site k.0 k.1) (λ t. rw five (halts site flag input number (down_stops a b fa fb sign t))))
    (λ sign. by_turned (less (added a b) a) (λ t. rw five (halts site flag input number (up_stops a b fa fb sign t))) (λ t. let k = up_gives a b fa fb sign t in leads site k.0 k.1))))
    small

pub difference_gone : IsCourse kind.Difference Plain Gone
difference_gone in_place site a b c flag input small asked =
    let range = within_of (a -ℤ b) (asked.goes_on refl) in
    leads site (taken_within a b asked.fit.0 asked.fit.1.0 range.0 range.1) (gives (a -ℤ b) range)

pub difference_kept : IsCourse kind.Difference Plain Kept
difference_kept true site a b c flag input small asked =
    let fa = asked.fit.0 in
    let fb = asked.fit.1.0 in
    let way = λ (b' : Bool). runs (checked_by b' (difference_check true) site) 0 (begun (apart_of KeepsFirst true) false false a b c flag input) ≡ led_to (of_32_bits (a -ℤ b)) site flag input in
    by_size site
    (λ e number. subst way (sym e)
    (by_test (less b (pos 0))
    (λ sign. by_test (less a (taken a b)) (λ t. let k = rise_gives a b fa fb sign t in leads site k.0 k.1) (λ t. rw five (halts site flag input number (rise_stops a b fa fb sign t))))
    (λ sign. by_turned (less a (taken a b)) (λ t. rw five (halts site flag input number (fall_stops a b fa fb sign t))) (λ t. let k = fall_gives a b fa fb sign t in leads site k.0 k.1))))
    (λ e number. subst way (sym e)
    (by_test (less b (pos 0))
    (λ sign. by_test (less a (taken a b)) (λ t. let k = rise_gives a b fa fb sign t in leads site k.0 k.1) (λ t. rw five (halts site flag input number (rise_stops a b fa fb sign t))))
    (λ sign. by_turned (less a (taken a b)) (λ t. rw five (halts site flag input number (fall_stops a b fa fb sign t))) (λ t. let k = fall_gives a b fa fb sign t in leads site k.0 k.1))))
    small
difference_kept false site a b c flag input small asked =
    let fa = asked.fit.0 in
    let fb = asked.fit.1.0 in
    let way = λ (b' : Bool). runs (checked_by b' (difference_check false) site) 0 (begun (apart_of KeepsFirst false) false false a b c flag input) ≡ led_to (of_32_bits (a -ℤ b)) site flag input in
    by_size site
    (λ e number. subst way (sym e)
    (by_test (less b (pos 0))
    (λ sign. by_test (less a (taken a b)) (λ t. let k = rise_gives a b fa fb sign t in leads site k.0 k.1) (λ t. rw five (halts site flag input number (rise_stops a b fa fb sign t))))
    (λ sign. by_turned (less a (taken a b)) (λ t. rw five (halts site flag input number (fall_stops a b fa fb sign t))) (λ t. let k = fall_gives a b fa fb sign t in leads site k.0 k.1))))
    (λ e number. subst way (sym e)
    (by_test (less b (pos 0))
    (λ sign. by_test (less a (taken a b)) (λ t. let k = rise_gives a b fa fb sign t in leads site k.0 k.1) (λ t. rw five (halts site flag input number (rise_stops a b fa fb sign t))))
    (λ sign. by_turned (less a (taken a b)) (λ t. rw five (halts site flag input number (fall_stops a b fa fb sign t))) (λ t. let k = fall_gives a b fa fb sign t in leads site k.0 k.1))))
    small

-- ---- opposites

least : upper 0x80000 ≡ negsuc 2147483647
unfolding upper
least = refl

opposite_is : (a : ℤ) → FitsSigned w32 a → a ≢ negsuc 2147483647 → (taken (pos 0) a ≡ neg_ℤ a) × Within32 (neg_ℤ a)
unfolding taken
opposite_is a fits other = (grind (arith, ints), (grind (arith, ints), grind (arith, ints)))

opposite_stops : (a : ℤ) → a ≡ negsuc 2147483647 → of_32_bits (neg_ℤ a) ≡ None
opposite_stops a e = ap (λ x. of_32_bits (neg_ℤ x)) e

pub opposite_gone : IsCourse kind.Opposite Plain Gone
opposite_gone in_place site a b c flag input small asked =
    let k = opposite_is a asked.fit.0 (λ e. asked.goes_on refl (opposite_stops a e)) in leads site k.0 (gives (neg_ℤ a) k.1)

pub opposite_kept : IsCourse kind.Opposite Plain Kept
opposite_kept in_place site a b c flag input small asked =
    let way = λ (b' : Bool). runs (checked_by b' opposite_check site ++ NEGATE_PLAIN) 0 (begun (apart_of Straight in_place) false false a b c flag input) ≡ led_to (of_32_bits (neg_ℤ a)) site flag input in
    by_size site
    (λ e number. subst way (sym e)
    (by_turned (equal a (upper 0x80000)) (λ t. rw five (halts site flag input number (opposite_stops a (equal_true _ _ t ∙ least))))
    (λ t. let k = opposite_is a asked.fit.0 (λ is. equal_false _ _ t (is ∙ sym least)) in leads site k.0 (gives (neg_ℤ a) k.1))))
    (λ e number. subst way (sym e)
    (by_turned (equal a (upper 0x80000)) (λ t. rw five (halts site flag input number (opposite_stops a (equal_true _ _ t ∙ least))))
    (λ t. let k = opposite_is a asked.fit.0 (λ is. equal_false _ _ t (is ∙ sym least)) in leads site k.0 (gives (neg_ℤ a) k.1))))
    small
