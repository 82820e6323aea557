-- The courses of products, bounds, views and samples.
use Rattle.std.proofs.Common.{◌≡◌, ℕ, ◌<◌, ◌≤◌, ◌^◌, min, ℤ, pos, negsuc, ◌+ℤ◌, ◌-ℤ◌, ◌*ℤ◌, ◌≤ℤ◌, ◌<ℤ◌, Bool, true, false, not, if◌then◌else◌, ◌⊎◌, inl, inr, Option, List, [], ◌∷◌, ◌++◌, Some, None, refl, sym, ap, ◌∙◌, subst, arith, ⊎_elim}
use Rattle.std.specs.Prelude.{FitsSigned}
use Rattle.std.specs.Int.{w16, w32, cast_signed, cast_unsigned}
use Rattle.std.proofs.lemmas.Bool.{cases_Bool}
use Rattle.std.proofs.lemmas.Int.{ints}
use Rattle.std.proofs.lemmas.List.Elements.{All-head}
use Rattle.operator_meaning.specs.declared.site.SiteKind.TheVariants as kind
use Rattle.operator_meaning.specs.declared.site.Form.TheVariants.{Plain}
use Rattle.operator_meaning.specs.declared.site.Guard.TheVariants.{Kept, Gone}
use Rattle.template_runs.specs.Courses.{Final, Stops, runs}
use Rattle.template_runs.specs.Machine.{begun}
use Rattle.template_runs.specs.Values.{added, multiplied, multiplied_high, to_right_signed, less, equal, below}
use Rattle.operator_lowering.specs.Courses.{IsCourse, apart_of}
use Rattle.operator_lowering.specs.Sites.{of_32_bits, led_to, between}
use Rattle.operator_lowering.specs.declared.way.Way.TheVariants.{Straight, Moves, KeepsThird}
use Rattle.operator_lowering.specs.Words.{checked_by, is_small, bound_of, product_check, bound_check, view_check, edge_check, sample_check, sample_words}
use Rattle.operator_lowering.proofs.Constants.{by_size, one, two, five}
use Rattle.operator_lowering.proofs.CheckCourses.{gives, stops, within_of}
use Rattle.operator_lowering.proofs.Leads.{between_inside, between_above, between_below, either_way, leads, halts}
use Rattle.operator_lowering.proofs.Numbers.{less_true, less_false, equal_true, equal_false, below_true, below_false, by_range32}
use Rattle.operator_lowering.proofs.Sums.{added_within, added_above}
use Rattle.operator_lowering.proofs.Trees.{by_test, by_turned}
use Rattle.operator_lowering.proofs.WideProducts.{product_inside, product_outside, product_exact}

-- ---- products

pub product_gone : IsCourse kind.Product Plain Gone
product_gone in_place site a b c flag input small asked =
    let range = within_of (a *ℤ b) (asked.goes_on refl) in
    leads site (product_exact a b asked.fit.0 asked.fit.1.0 range) (gives (a *ℤ b) range)

pub product_kept : IsCourse kind.Product Plain Kept
product_kept in_place site a b c flag input small asked =
    let fa = asked.fit.0 in
    let fb = asked.fit.1.0 in
    let way = λ (b' : Bool). runs (checked_by b' product_check site) 0 (begun (apart_of Straight in_place) false false a b c flag input) ≡ led_to (of_32_bits (a *ℤ b)) site flag input in
    by_size site
    (λ e number. subst way (sym e)
    (by_test (equal (multiplied_high a b) (to_right_signed (multiplied a b) 31)) (λ t. let k = product_inside a b fa fb (equal_true _ _ t) in leads site k.1 (gives (a *ℤ b) k.0))
    (λ t. rw five (halts site flag input number (stops (a *ℤ b) (λ range. equal_false _ _ t (product_outside a b fa fb range)))))))
    (λ e number. subst way (sym e)
    (by_test (equal (multiplied_high a b) (to_right_signed (multiplied a b) 31)) (λ t. let k = product_inside a b fa fb (equal_true _ _ t) in leads site k.1 (gives (a *ℤ b) k.0))
    (λ t. rw five (halts site flag input number (stops (a *ℤ b) (λ range. equal_false _ _ t (product_outside a b fa fb range)))))))
    small

-- ---- bounds

module _ (a : ℤ) (bound : ℕ) (fits : FitsSigned w32 a) where
  abbrev limit : ℤ
  limit = cast_signed w32 (bound_of bound)

  inside : below a limit ≡ true → between (pos 0) (pos bound -ℤ pos 1) a ≡ Some a
  inside t = let k = of_below a (below_true _ _ t) fits in between_inside (pos 0) (pos bound -ℤ pos 1) a k.0 k.1
    where
      of_below : (a : ℤ) → cast_unsigned w32 a < cast_unsigned w32 (cast_signed w32 (min bound 2147483648)) → FitsSigned w32 a → (pos 0 ≤ℤ a) × (a ≤ℤ (pos bound -ℤ pos 1))
      of_below a t fits = (grind (arith, ints), grind (arith, ints))

  outside : below a limit ≡ false → between (pos 0) (pos bound -ℤ pos 1) a ≡ None
  outside t =
      ⊎_elim
      (λ (e : less a (pos 0) ≡ true). between_below (pos 0) (pos bound -ℤ pos 1) a (less_true _ _ e))
      (λ (e : less a (pos 0) ≡ false). between_above (pos 0) (pos bound -ℤ pos 1) a (over a (below_false _ _ t) (less_false _ _ e) fits) (less_false _ _ e))
      (cases_Bool (less a (pos 0)))
    where
      over : (a : ℤ) → cast_unsigned w32 (cast_signed w32 (min bound 2147483648)) ≤ cast_unsigned w32 a → pos 0 ≤ℤ a → FitsSigned w32 a → (pos bound -ℤ pos 1) <ℤ a
      over a t low fits = grind (arith, ints)

pub bound_gone : (bound : ℕ) → IsCourse (kind.Bound bound) Plain Gone
bound_gone bound in_place site a b c flag input small asked =
    ⊎_elim
    (λ (e : between (pos 0) (pos bound -ℤ pos 1) a ≡ Some a). leads site refl e)
    (λ (e : between (pos 0) (pos bound -ℤ pos 1) a ≡ None). absurd (asked.goes_on refl e))
    (either_way (pos 0) (pos bound -ℤ pos 1) a)

pub bound_kept : (bound : ℕ) → IsCourse (kind.Bound bound) Plain Kept
bound_kept bound in_place site a b c flag input small asked =
    let fits = asked.fit.0 in
    let n = bound_of bound in
    let way = λ (m s : Bool). runs (checked_by s (bound_check m n) site) 0 (begun (apart_of Moves in_place) false true a b c flag input) ≡ led_to (between (pos 0) (pos bound -ℤ pos 1) a) site flag input in
    let in_limit = λ (x : ℤ) (is : x ≡ cast_signed w32 n) (t : below a x ≡ true). inside a bound fits (subst (λ y. below a y ≡ true) is t) in
    let past_limit = λ (x : ℤ) (is : x ≡ cast_signed w32 n) (t : below a x ≡ false). outside a bound fits (subst (λ y. below a y ≡ false) is t) in
    by_size n
    (λ e is. subst (λ m. way m (is_small site)) (sym e)
    (by_size site
    (λ f number. subst (way true) (sym f) (by_test (below a _) (λ t. leads site refl (in_limit _ is t)) (λ t. rw five (halts site flag input number (past_limit _ is t)))))
    (λ f number. subst (way true) (sym f) (by_test (below a _) (λ t. leads site refl (in_limit _ is t)) (λ t. rw five (halts site flag input number (past_limit _ is t)))))
    small))
    (λ e is. subst (λ m. way m (is_small site)) (sym e)
    (by_size site
    (λ f number. subst (way false) (sym f) (by_test (below a _) (λ t. leads site refl (in_limit _ is t)) (λ t. rw five (halts site flag input number (past_limit _ is t)))))
    (λ f number. subst (way false) (sym f) (by_test (below a _) (λ t. leads site refl (in_limit _ is t)) (λ t. rw five (halts site flag input number (past_limit _ is t)))))
    small))
    (few bound)
  where
    few : (n : ℕ) → min n 2147483648 < 2 ^ 32
    few n = omega arith

-- ---- views

module _ (a b h : ℤ) (fits_a : FitsSigned w32 a) (fits_b : FitsSigned w32 b) (most : h ≤ℤ pos 2147483647) where
  abbrev s : ℤ
  s = added a b

  abbrev Offset : Option ℤ → Type 0
  Offset o = between (pos 0) h (a +ℤ b) ≡ o

  both_negative : less b (pos 0) ≡ true → less a (pos 0) ≡ true → Offset None
  both_negative f e = between_below (pos 0) h (a +ℤ b) (sum_below (less_true _ _ e) (less_true _ _ f))
    where
      sum_below : a <ℤ pos 0 → b <ℤ pos 0 → (a +ℤ b) <ℤ pos 0
      sum_below e f = grind (arith, ints)

  -- where not both are negative
  abbrev NotBoth : Type 0
  NotBoth = (pos 0 ≤ℤ a) ⊎ (pos 0 ≤ℤ b)

  not_under : NotBoth → (a +ℤ b) <ℤ negsuc 2147483647 → ⊥
  not_under one under = ⊎_elim (λ (e : pos 0 ≤ℤ a). of_first e under) (λ (e : pos 0 ≤ℤ b). of_second e under) one
    where
      of_first : pos 0 ≤ℤ a → (a +ℤ b) <ℤ negsuc 2147483647 → ⊥
      of_first e under = grind (arith, ints)

      of_second : pos 0 ≤ℤ b → (a +ℤ b) <ℤ negsuc 2147483647 → ⊥
      of_second e under = grind (arith, ints)

  negative_sum : NotBoth → less s (pos 0) ≡ true → Offset None
  negative_sum one e =
      let high = less_true _ _ e in
      by_range32 (a +ℤ b)
      (λ low less_high. between_below (pos 0) h (a +ℤ b) (subst (λ x. x <ℤ pos 0) (added_within a b fits_a fits_b low less_high) high))
      (λ over. between_above (pos 0) h (a +ℤ b) (past over) (positive over))
      (λ under. absurd (not_under one under))
    where
      past : pos 2147483647 <ℤ (a +ℤ b) → h <ℤ (a +ℤ b)
      past over = grind (arith, ints)

      positive : pos 2147483647 <ℤ (a +ℤ b) → pos 0 ≤ℤ (a +ℤ b)
      positive over = grind (arith, ints)

  sum_is : NotBoth → less s (pos 0) ≡ false → s ≡ a +ℤ b
  sum_is one e =
      let low = less_false _ _ e in
      by_range32 (a +ℤ b) (λ least less_high. added_within a b fits_a fits_b least less_high)
      (λ over. absurd (wraps over (added_above a b fits_a fits_b over) low fits_a fits_b)) (λ under. absurd (not_under one under))
    where
      wraps : pos 2147483647 <ℤ (a +ℤ b) → added a b ≡ a +ℤ b -ℤ pos 4294967296 → pos 0 ≤ℤ added a b → FitsSigned w32 a → FitsSigned w32 b → ⊥
      wraps over is low fa fb = grind (arith, ints)

  in_view : NotBoth → less s (pos 0) ≡ false → s ≤ℤ h → (s ≡ a +ℤ b) × Offset (Some (a +ℤ b))
  in_view one e within =
      let is = sum_is one e in
      (is, between_inside (pos 0) h (a +ℤ b) (subst (λ x. pos 0 ≤ℤ x) is (less_false _ _ e)) (subst (λ x. x ≤ℤ h) is within))

  past_view : NotBoth → less s (pos 0) ≡ false → h <ℤ s → Offset None
  past_view one e beyond =
      let is = sum_is one e in
      between_above (pos 0) h (a +ℤ b) (subst (λ x. h <ℤ x) is beyond) (subst (λ x. pos 0 ≤ℤ x) is (less_false _ _ e))

before_last : (x c : ℤ) → x <ℤ c → x ≤ℤ (c -ℤ pos 1)
before_last x c e = grind (arith, ints)

after_last : (x c : ℤ) → c ≤ℤ x → (c -ℤ pos 1) <ℤ x
after_last x c e = grind (arith, ints)

last_fits : (c : ℤ) → FitsSigned w32 c → (c -ℤ pos 1) ≤ℤ pos 2147483647
last_fits c fits = grind (arith, ints)

length_fits : (c : ℤ) → FitsSigned w32 c → c ≤ℤ pos 2147483647
length_fits c fits = grind (arith, ints)

view_tree : (a b h : ℤ) → FitsSigned w32 a → FitsSigned w32 b → h ≤ℤ pos 2147483647 → (site : ℕ) (flag : ℤ) (input : List ℤ) (stop last : Final)
    → stop ≡ led_to None site flag input
    → ((pos 0 ≤ℤ a) ⊎ (pos 0 ≤ℤ b) → less (added a b) (pos 0) ≡ false → last ≡ led_to (between (pos 0) h (a +ℤ b)) site flag input)
    → (if not (less b (pos 0)) then (if less (added a b) (pos 0) then stop else last) else (if less a (pos 0) then stop else (if less (added a b) (pos 0) then stop else last)))
    ≡ led_to (between (pos 0) h (a +ℤ b)) site flag input
view_tree a b h fa fb most site flag input stop last stops ends =
    by_turned (less b (pos 0))
    (λ f. by_test (less a (pos 0)) (λ e. stops ∙ to (both_negative a b h fa fb most f e)) (λ e. rest (inl (less_false _ _ e))))
    (λ f. rest (inr (less_false _ _ f)))
  where
    to : between (pos 0) h (a +ℤ b) ≡ None → led_to None site flag input ≡ led_to (between (pos 0) h (a +ℤ b)) site flag input
    to e = ap (λ o. led_to o site flag input) (sym e)

    rest : (pos 0 ≤ℤ a) ⊎ (pos 0 ≤ℤ b) → (if less (added a b) (pos 0) then stop else last) ≡ led_to (between (pos 0) h (a +ℤ b)) site flag input
    rest one = by_test (less (added a b) (pos 0)) (λ e. stops ∙ to (negative_sum a b h fa fb most one e)) (λ e. ends one e)

stop_is : {v : ℤ} (site : ℕ) (flag : ℤ) (input : List ℤ) → v ≡ cast_signed w32 site → Stops v ≡ led_to None site flag input
stop_is {v} site flag input number = ap Stops number

pub view_kept : IsCourse kind.ViewBound Plain Kept
view_kept in_place site a b c flag input small asked =
    let fa = asked.fit.0 in
    let fb = asked.fit.1.0 in
    let fc = asked.fit.1.1.0 in
    let way = λ (b' : Bool). runs (checked_by b' view_check site) 0 (begun (apart_of KeepsThird in_place) false false a b c flag input) ≡ led_to (between (pos 0) (c -ℤ pos 1) (a +ℤ b)) site flag input in
    by_size site
    (λ e number. subst way (sym e)
    (rw five (view_tree a b (c -ℤ pos 1) fa fb (last_fits c fc) site flag input _ _ (stop_is site flag input number)
    (λ one f. by_test (less (added a b) c) (λ t. let k = in_view a b (c -ℤ pos 1) fa fb (last_fits c fc) one f (before_last _ _ (less_true _ _ t)) in leads site k.0 k.1)
    (λ t. halts site flag input number (past_view a b (c -ℤ pos 1) fa fb (last_fits c fc) one f (after_last _ _ (less_false _ _ t))))))))
    (λ e number. subst way (sym e)
    (rw five (view_tree a b (c -ℤ pos 1) fa fb (last_fits c fc) site flag input _ _ (stop_is site flag input number)
    (λ one f. by_test (less (added a b) c) (λ t. let k = in_view a b (c -ℤ pos 1) fa fb (last_fits c fc) one f (before_last _ _ (less_true _ _ t)) in leads site k.0 k.1)
    (λ t. halts site flag input number (past_view a b (c -ℤ pos 1) fa fb (last_fits c fc) one f (after_last _ _ (less_false _ _ t))))))))
    small

pub edge_kept : IsCourse kind.ViewEdge Plain Kept
edge_kept in_place site a b c flag input small asked =
    let fa = asked.fit.0 in
    let fb = asked.fit.1.0 in
    let fc = asked.fit.1.1.0 in
    let way = λ (b' : Bool). runs (checked_by b' edge_check site) 0 (begun (apart_of KeepsThird in_place) false false a b c flag input) ≡ led_to (between (pos 0) c (a +ℤ b)) site flag input in
    by_size site
    (λ e number. subst way (sym e)
    (rw five (view_tree a b c fa fb (length_fits c fc) site flag input _ _ (stop_is site flag input number)
    (λ one f. by_turned (less c (added a b)) (λ t. halts site flag input number (past_view a b c fa fb (length_fits c fc) one f (less_true _ _ t)))
    (λ t. let k = in_view a b c fa fb (length_fits c fc) one f (less_false _ _ t) in leads site k.0 k.1)))))
    (λ e number. subst way (sym e)
    (rw five (view_tree a b c fa fb (length_fits c fc) site flag input _ _ (stop_is site flag input number)
    (λ one f. by_turned (less c (added a b)) (λ t. halts site flag input number (past_view a b c fa fb (length_fits c fc) one f (less_true _ _ t)))
    (λ t. let k = in_view a b c fa fb (length_fits c fc) one f (less_false _ _ t) in leads site k.0 k.1)))))
    small

-- a guard that is gone
view_sum : (a b h : ℤ) → FitsSigned w32 a → FitsSigned w32 b → h ≤ℤ pos 2147483647 → (between (pos 0) h (a +ℤ b) ≡ None → ⊥)
    → (added a b ≡ a +ℤ b) × (between (pos 0) h (a +ℤ b) ≡ Some (a +ℤ b))
view_sum a b h fa fb most goes_on =
    by_range32 (a +ℤ b)
    (λ low high. (added_within a b fa fb low high, ⊎_elim (λ (e : between (pos 0) h (a +ℤ b) ≡ Some (a +ℤ b)). e) (λ (e : between (pos 0) h (a +ℤ b) ≡ None). absurd (goes_on e)) (either_way (pos 0) h (a +ℤ b))))
    (λ over. absurd (goes_on (between_above (pos 0) h (a +ℤ b) (past over) (positive over))))
    (λ under. absurd (goes_on (between_below (pos 0) h (a +ℤ b) (negative under))))
  where
    past : pos 2147483647 <ℤ (a +ℤ b) → h <ℤ (a +ℤ b)
    past over = grind (arith, ints)

    positive : pos 2147483647 <ℤ (a +ℤ b) → pos 0 ≤ℤ (a +ℤ b)
    positive over = grind (arith, ints)

    negative : (a +ℤ b) <ℤ negsuc 2147483647 → (a +ℤ b) <ℤ pos 0
    negative under = grind (arith, ints)

pub view_gone : IsCourse kind.ViewBound Plain Gone
view_gone in_place site a b c flag input small asked =
    let k = view_sum a b (c -ℤ pos 1) asked.fit.0 asked.fit.1.0 (last_fits c asked.fit.1.1.0) (asked.goes_on refl) in leads site k.0 k.1

pub edge_gone : IsCourse kind.ViewEdge Plain Gone
edge_gone in_place site a b c flag input small asked =
    let k = view_sum a b c asked.fit.0 asked.fit.1.0 (length_fits c asked.fit.1.1.0) (asked.goes_on refl) in leads site k.0 k.1

-- ---- samples

none_left : equal (pos 0) (pos 0) ≡ true
unfolding equal
none_left = refl

some_left : equal (pos 1) (pos 0) ≡ false
unfolding equal
some_left = refl

same_sample : (sample : ℤ) → FitsSigned w16 sample → added sample (pos 0) ≡ sample
unfolding added
same_sample sample fits = grind (arith, ints)

pub sample_gone : IsCourse kind.Sample Plain Gone
sample_gone in_place site a b c flag [] small asked = absurd (asked.goes_on refl refl)
sample_gone in_place site a b c flag (sample ∷ left) small asked = rw two (leads site (same_sample sample (All-head (FitsSigned w16) sample left asked.samples)) refl)

pub sample_kept : IsCourse kind.Sample Plain Kept
sample_kept in_place site a b c flag [] small asked =
    let way = λ (b' : Bool). runs (checked_by b' sample_check site ++ sample_words) 0 (begun (apart_of Straight in_place) true false a b c flag []) ≡ led_to None site flag [] in
    by_size site (λ e number. subst way (sym e) (rw (one, none_left, five) (halts site flag [] number refl)))
    (λ e number. subst way (sym e) (rw (one, none_left, five) (halts site flag [] number refl))) small
sample_kept in_place site a b c flag (sample ∷ left) small asked =
    let same = same_sample sample (All-head (FitsSigned w16) sample left asked.samples) in
    let way = λ (b' : Bool). runs (checked_by b' sample_check site ++ sample_words) 0 (begun (apart_of Straight in_place) true false a b c flag (sample ∷ left)) ≡ led_to (Some sample) site flag left in
    by_size site (λ e number. subst way (sym e) (rw (one, some_left, two) (leads site same refl)))
    (λ e number. subst way (sym e) (rw (one, some_left, two) (leads site same refl))) small
