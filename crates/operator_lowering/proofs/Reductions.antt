-- Differences with twice a product, and their clips.
use Rattle.std.proofs.Common.{◌≡◌, ℤ, pos, negsuc, ◌-ℤ◌, ◌*ℤ◌, ◌≤ℤ◌, ◌<ℤ◌, true, false, not, if◌then◌else◌, refl, sym, ap, ◌∙◌, subst, arith}
use Rattle.std.specs.Prelude.{FitsSigned}
use Rattle.std.specs.Int.{w16, w32}
use Rattle.std.proofs.lemmas.Int.{ints}
use Rattle.sat_base.specs.Clip.{clip32}
use Rattle.operator_meaning.specs.Clipping.{changes32, reduction_clips}
use Rattle.operator_meaning.specs.Value.{product_of, reduced}
use Rattle.template_runs.specs.Courses.{Final}
use Rattle.template_runs.specs.Values.{added, taken, less, multiplied, upper}
use Rattle.operator_lowering.proofs.Numbers.{less_true, less_false, clip_below32, kept32, above32, below32, range_of_kept32}
use Rattle.operator_lowering.proofs.Sums.{IsExact, taken_within, taken_fits}
use Rattle.operator_lowering.proofs.SumCourses.{up_by, down_by, less_over, less_under}
use Rattle.operator_lowering.proofs.Products.{twice_of, twice_exact, twice_past, not_past, not_past_below, past, not_past_kept, signs_agree}
use Rattle.operator_lowering.proofs.Accumulations.{greatest, least, fits_greatest, neither, second, first, no_first, no_second}
use Rattle.operator_lowering.proofs.Trees.{by_test, by_turned}

before_least : added (negsuc 2147483647) (negsuc 0) ≡ pos 2147483647
unfolding added
before_least = refl

module _ (x a b : ℤ) (fits_x : FitsSigned w32 x) (fits_a : FitsSigned w16 a) (fits_b : FitsSigned w16 b) where
  abbrev two : ℤ
  two = twice_of a b

  abbrev difference : ℤ
  difference = taken x two

  -- a value of the words, and whether they set Overflow
  abbrev Keeps : ℤ → Type 0
  Keeps v = (v ≡ reduced x a b) × (reduction_clips x a b ≡ false)

  abbrev Changes : ℤ → Type 0
  Changes v = (v ≡ reduced x a b) × (reduction_clips x a b ≡ true)

  of_exact : (a *ℤ b) <ℤ pos 1073741824 → (FitsSigned w32 two → IsExact (x -ℤ two) difference) → Keeps difference
  of_exact fewer k =
      let t = twice_exact a b fits_a fits_b fewer in
      let e = k t.2 in
      (e.0 ∙ ap (λ y. clip32 (x -ℤ y)) t.0, neither t.1 (ap (λ y. changes32 (x -ℤ y)) (sym t.0) ∙ e.1))

  of_clipped : {v : ℤ} → (a *ℤ b) <ℤ pos 1073741824 → (FitsSigned w32 two → (v ≡ clip32 (x -ℤ two)) × (changes32 (x -ℤ two) ≡ true)) → Changes v
  of_clipped fewer k =
      let t = twice_exact a b fits_a fits_b fewer in
      let e = k t.2 in
      (e.0 ∙ ap (λ y. clip32 (x -ℤ y)) t.0, second t.1 (ap (λ y. changes32 (x -ℤ y)) (sym t.0) ∙ e.1))

  up_keeps : less two (pos 0) ≡ false → less x difference ≡ false → Keeps difference
  up_keeps e f = of_exact (not_past a b fits_a fits_b e) (λ fits. down_by x two fits_x fits e f)

  up_changes : less two (pos 0) ≡ false → less x difference ≡ true → Changes (upper 0x80000)
  up_changes e f =
      let k = of_clipped (not_past a b fits_a fits_b e) (λ fits. below32 (x -ℤ two) (less_under x two fits_x fits e f)) in
      (least ∙ k.0, k.1)

  -- a difference is too small where the first operand is negative
  up_negative : less two (pos 0) ≡ false → less x difference ≡ true → less x (pos 0) ≡ false → ⊥
  up_negative e f g =
      let fits = (twice_exact a b fits_a fits_b (not_past a b fits_a fits_b e)).2 in
      no (less_under x two fits_x fits e f) fits (less_false _ _ g)
    where
      no : (x -ℤ two) <ℤ negsuc 2147483647 → FitsSigned w32 two → pos 0 ≤ℤ x → ⊥
      no under fits low = grind (arith, ints)

  down_keeps : less two (pos 0) ≡ true → less (multiplied a b) (pos 0) ≡ true → less x difference ≡ true → Keeps difference
  down_keeps e p f = of_exact (not_past_below a b fits_a fits_b p) (λ fits. up_by x two fits_x fits e f)

  down_changes : less two (pos 0) ≡ true → less (multiplied a b) (pos 0) ≡ true → less x difference ≡ false → Changes (added (upper 0x80000) (negsuc 0))
  down_changes e p f =
      let k = of_clipped (not_past_below a b fits_a fits_b p) (λ fits. above32 (x -ℤ two) (less_over x two fits_x fits e f)) in
      (greatest ∙ k.0, k.1)

  -- where twice the product is 2^31
  corner_high : less two (pos 0) ≡ true → less (multiplied a b) (pos 0) ≡ false → less x (pos 0) ≡ false → Changes (taken x (added two (negsuc 0)))
  corner_high e p f =
      let t = twice_past a b fits_a fits_b (past a b fits_a fits_b e p) in
      let range = within (less_false _ _ f) in (
        ap (λ y. taken x (added y (negsuc 0))) t.0 ∙ ap (taken x) before_least ∙ taken_within x (pos 2147483647) fits_x fits_greatest range.0 range.1
            ∙ (kept32 (x -ℤ pos 2147483647) range.0 range.1).0 ∙ ap (λ y. clip32 (x -ℤ y)) t.1,
        first _ _ t.2,
      )
    where
      within : pos 0 ≤ℤ x → (negsuc 2147483647 ≤ℤ (x -ℤ pos 2147483647)) × ((x -ℤ pos 2147483647) ≤ℤ pos 2147483647)
      within low = (grind (arith, ints), grind (arith, ints))

  corner_low : less two (pos 0) ≡ true → less (multiplied a b) (pos 0) ≡ false → less x (pos 0) ≡ true → Changes (upper 0x80000)
  corner_low e p f =
      let t = twice_past a b fits_a fits_b (past a b fits_a fits_b e p) in
      (least ∙ sym (clip_below32 (x -ℤ pos 2147483647) (under (less_true _ _ f))) ∙ ap (λ y. clip32 (x -ℤ y)) t.1, first _ _ t.2)
    where
      under : x <ℤ pos 0 → (x -ℤ pos 2147483647) ≤ℤ negsuc 2147483647
      under high = grind (arith, ints)

  -- What the words come to, by what follows a value where no clip changes a number, and where one does. The sign of the
  -- product parts what is too small, with a product of 2^30, from what is too great.
  abbrev by_product : (kept changed : ℤ → Final) → Final
  by_product kept changed =
      if not (less (multiplied a b) (pos 0))
      then (if not (less x (pos 0)) then changed (taken x (added two (negsuc 0))) else changed (upper 0x80000))
      else (if less x difference then kept difference else changed (added (upper 0x80000) (negsuc 0)))

  abbrev pub taking : (kept changed : ℤ → Final) → Final
  taking kept changed =
      if less two (pos 0) then by_product kept changed else
      (if not (less x difference) then kept difference else by_product kept changed)

  pub takes : {z : Final} (kept changed : ℤ → Final) → ((v : ℤ) → Keeps v → kept v ≡ z) → ((v : ℤ) → Changes v → changed v ≡ z) → taking kept changed ≡ z
  takes kept changed keeps changes =
      by_test (less two (pos 0))
      (λ e. by_turned (less (multiplied a b) (pos 0))
      (λ p. by_test (less x difference) (λ f. keeps _ (down_keeps e p f)) (λ f. changes _ (down_changes e p f)))
      (λ p. by_turned (less x (pos 0)) (λ f. changes _ (corner_low e p f)) (λ f. changes _ (corner_high e p f))))
      (λ e. by_turned (less x difference)
      (λ f. by_turned (less (multiplied a b) (pos 0))
      (λ p. absurd (signs_agree a b fits_a fits_b e p))
      (λ p. by_turned (less x (pos 0)) (λ g. changes _ (up_changes e f)) (λ g. absurd (up_negative e f g))))
      (λ f. keeps _ (up_keeps e f)))

  -- where no clip changes a number
  pub plain_keeps : reduction_clips x a b ≡ false → (difference ≡ reduced x a b) × FitsSigned w32 difference
  plain_keeps none =
      let t = twice_exact a b fits_a fits_b (not_past_kept a b fits_a fits_b (no_first _ _ none)) in
      let range = range_of_kept32 (x -ℤ clip32 (product_of a b)) (no_second _ _ none) in
      let inside = subst (λ y. (negsuc 2147483647 ≤ℤ (x -ℤ y)) × ((x -ℤ y) ≤ℤ pos 2147483647)) (sym t.0) range in
      (taken_within x two fits_x t.2 inside.0 inside.1 ∙ ap (λ y. x -ℤ y) t.0 ∙ (kept32 (x -ℤ clip32 (product_of a b)) range.0 range.1).0, taken_fits x two fits_x t.2)
