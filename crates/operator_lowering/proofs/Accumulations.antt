-- Sums with twice a product, and their clips.
use Rattle.std.proofs.Common.{◌≡◌, ℤ, pos, negsuc, ◌+ℤ◌, ◌*ℤ◌, ◌≤ℤ◌, ◌<ℤ◌, Bool, true, false, not, ◌||◌, if◌then◌else◌, refl, sym, ap, ◌∙◌, subst, arith}
use Rattle.std.specs.Prelude.{FitsSigned}
use Rattle.std.specs.Int.{w16, w32}
use Rattle.std.proofs.lemmas.Int.{ints}
use Rattle.sat_base.specs.Clip.{clip32}
use Rattle.operator_meaning.specs.Clipping.{changes32, accumulation_clips}
use Rattle.operator_meaning.specs.Value.{product_of, accumulated}
use Rattle.template_runs.specs.Courses.{Final}
use Rattle.template_runs.specs.Values.{added, less, multiplied, upper}
use Rattle.operator_lowering.proofs.Numbers.{less_true, less_false, kept32, above32, below32, range_of_kept32}
use Rattle.operator_lowering.proofs.Sums.{IsExact, added_within, added_fits}
use Rattle.operator_lowering.proofs.SumCourses.{up_exact, up_over, down_exact, down_under}
use Rattle.operator_lowering.proofs.Products.{twice_of, twice_exact, twice_past, not_past, not_past_below, past, not_past_kept, signs_agree}
use Rattle.operator_lowering.proofs.Trees.{by_test, by_turned}

pub greatest : added (upper 0x80000) (negsuc 0) ≡ pos 2147483647
unfolding added upper
greatest = refl

all_ones : added (added (upper 0x80000) (negsuc 0)) (pos 0) ≡ pos 2147483647
unfolding added upper
all_ones = refl

pub least : upper 0x80000 ≡ negsuc 2147483647
unfolding upper
least = refl

pub fits_greatest : FitsSigned w32 (pos 2147483647)
fits_greatest = grind (arith, ints)

-- neither of two clips changes a number, or one does
pub neither : {m n : Bool} → m ≡ false → n ≡ false → (m || n) ≡ false
neither {m} {n} e f = ap (λ x. x || n) e ∙ f

pub second : {m n : Bool} → m ≡ false → n ≡ true → (m || n) ≡ true
second {m} {n} e f = ap (λ x. x || n) e ∙ f

pub first : (m n : Bool) → m ≡ true → (m || n) ≡ true
first m n e = ap (λ x. x || n) e

pub no_first : (m n : Bool) → (m || n) ≡ false → m ≡ false
no_first false n e = refl
no_first true n e = absurd (let f = e in cc)

pub no_second : (m n : Bool) → (m || n) ≡ false → n ≡ false
no_second false n e = e
no_second true n e = absurd (let f = e in cc)

-- ---- sums

module _ (x a b : ℤ) (fits_x : FitsSigned w32 x) (fits_a : FitsSigned w16 a) (fits_b : FitsSigned w16 b) where
  abbrev two : ℤ
  two = twice_of a b

  abbrev sum : ℤ
  sum = added x two

  -- a value of the words, and whether they set Overflow
  abbrev Keeps : ℤ → Type 0
  Keeps v = (v ≡ accumulated x a b) × (accumulation_clips x a b ≡ false)

  abbrev Changes : ℤ → Type 0
  Changes v = (v ≡ accumulated x a b) × (accumulation_clips x a b ≡ true)

  of_exact : (a *ℤ b) <ℤ pos 1073741824 → (FitsSigned w32 two → IsExact (x +ℤ two) sum) → Keeps sum
  of_exact fewer k =
      let t = twice_exact a b fits_a fits_b fewer in
      let e = k t.2 in
      (e.0 ∙ ap (λ y. clip32 (x +ℤ y)) t.0, neither t.1 (ap (λ y. changes32 (x +ℤ y)) (sym t.0) ∙ e.1))

  of_clipped : {v : ℤ} → (a *ℤ b) <ℤ pos 1073741824 → (FitsSigned w32 two → (v ≡ clip32 (x +ℤ two)) × (changes32 (x +ℤ two) ≡ true)) → Changes v
  of_clipped fewer k =
      let t = twice_exact a b fits_a fits_b fewer in
      let e = k t.2 in
      (e.0 ∙ ap (λ y. clip32 (x +ℤ y)) t.0, second t.1 (ap (λ y. changes32 (x +ℤ y)) (sym t.0) ∙ e.1))

  up_keeps : less two (pos 0) ≡ false → less sum x ≡ false → Keeps sum
  up_keeps e f = of_exact (not_past a b fits_a fits_b e) (λ fits. up_exact x two fits_x fits e f)

  up_changes : less two (pos 0) ≡ false → less sum x ≡ true → Changes (added (added (upper 0x80000) (negsuc 0)) (pos 0))
  up_changes e f =
      let k = of_clipped (not_past a b fits_a fits_b e) (λ fits. above32 (x +ℤ two) (up_over x two fits_x fits e f)) in
      (all_ones ∙ k.0, k.1)

  -- a sum is too great where the first operand is positive
  up_positive : less two (pos 0) ≡ false → less sum x ≡ true → less (pos 0) x ≡ false → ⊥
  up_positive e f g =
      let fits = (twice_exact a b fits_a fits_b (not_past a b fits_a fits_b e)).2 in
      no (up_over x two fits_x fits e f) fits (less_false _ _ g)
    where
      no : pos 2147483647 <ℤ (x +ℤ two) → FitsSigned w32 two → x ≤ℤ pos 0 → ⊥
      no over fits high = grind (arith, ints)

  down_keeps : less two (pos 0) ≡ true → less (multiplied a b) (pos 0) ≡ true → less sum x ≡ true → Keeps sum
  down_keeps e p f = of_exact (not_past_below a b fits_a fits_b p) (λ fits. down_exact x two fits_x fits e f)

  down_changes : less two (pos 0) ≡ true → less (multiplied a b) (pos 0) ≡ true → less sum x ≡ false → Changes (upper 0x80000)
  down_changes e p f =
      let k = of_clipped (not_past_below a b fits_a fits_b p) (λ fits. below32 (x +ℤ two) (down_under x two fits_x fits e f)) in
      (least ∙ k.0, k.1)

  -- where twice the product is 2^31
  corner_low : less two (pos 0) ≡ true → less (multiplied a b) (pos 0) ≡ false → less (pos 0) x ≡ false → Changes (added x (added (upper 0x80000) (negsuc 0)))
  corner_low e p f =
      let t = twice_past a b fits_a fits_b (past a b fits_a fits_b e p) in
      let range = within (less_false _ _ f) in
      (ap (added x) greatest ∙ added_within x (pos 2147483647) fits_x fits_greatest range.0 range.1 ∙ (kept32 (x +ℤ pos 2147483647) range.0 range.1).0 ∙ ap (λ y. clip32 (x +ℤ y)) t.1, first _ _ t.2)
    where
      within : x ≤ℤ pos 0 → (negsuc 2147483647 ≤ℤ (x +ℤ pos 2147483647)) × ((x +ℤ pos 2147483647) ≤ℤ pos 2147483647)
      within high = (grind (arith, ints), grind (arith, ints))

  corner_high : less two (pos 0) ≡ true → less (multiplied a b) (pos 0) ≡ false → less (pos 0) x ≡ true → Changes (added (added (upper 0x80000) (negsuc 0)) (pos 0))
  corner_high e p f =
      let t = twice_past a b fits_a fits_b (past a b fits_a fits_b e p) in
      (all_ones ∙ (above32 (x +ℤ pos 2147483647) (over (less_true _ _ f))).0 ∙ ap (λ y. clip32 (x +ℤ y)) t.1, first _ _ t.2)
    where
      over : pos 0 <ℤ x → pos 2147483647 <ℤ (x +ℤ pos 2147483647)
      over low = grind (arith, ints)

  -- What the words come to, by what follows a value where no clip changes a number, and where one does. The sign of the
  -- product parts what is too great, with a product of 2^30, from what is too small.
  abbrev by_product : (kept changed : ℤ → Final) → Final
  by_product kept changed =
      if not (less (multiplied a b) (pos 0))
      then (if not (less (pos 0) x) then changed (added x (added (upper 0x80000) (negsuc 0))) else changed (added (added (upper 0x80000) (negsuc 0)) (pos 0)))
      else (if less sum x then kept sum else changed (upper 0x80000))

  abbrev pub adding : (kept changed : ℤ → Final) → Final
  adding kept changed =
      if less two (pos 0) then by_product kept changed else
      (if not (less sum x) then kept sum else by_product kept changed)

  pub adds : {z : Final} (kept changed : ℤ → Final) → ((v : ℤ) → Keeps v → kept v ≡ z) → ((v : ℤ) → Changes v → changed v ≡ z) → adding kept changed ≡ z
  adds kept changed keeps changes =
      by_test (less two (pos 0))
      (λ e. by_turned (less (multiplied a b) (pos 0))
      (λ p. by_test (less sum x) (λ f. keeps _ (down_keeps e p f)) (λ f. changes _ (down_changes e p f)))
      (λ p. by_turned (less (pos 0) x) (λ f. changes _ (corner_high e p f)) (λ f. changes _ (corner_low e p f))))
      (λ e. by_turned (less sum x)
      (λ f. by_turned (less (multiplied a b) (pos 0))
      (λ p. absurd (signs_agree a b fits_a fits_b e p))
      (λ p. by_turned (less (pos 0) x) (λ g. changes _ (up_changes e f)) (λ g. absurd (up_positive e f g))))
      (λ f. keeps _ (up_keeps e f)))

  -- where no clip changes a number
  pub plain_keeps : accumulation_clips x a b ≡ false → (sum ≡ accumulated x a b) × FitsSigned w32 sum
  plain_keeps none =
      let t = twice_exact a b fits_a fits_b (not_past_kept a b fits_a fits_b (no_first _ _ none)) in
      let range = range_of_kept32 (x +ℤ clip32 (product_of a b)) (no_second _ _ none) in
      let inside = subst (λ y. (negsuc 2147483647 ≤ℤ (x +ℤ y)) × ((x +ℤ y) ≤ℤ pos 2147483647)) (sym t.0) range in
      (added_within x two fits_x t.2 inside.0 inside.1 ∙ ap (λ y. x +ℤ y) t.0 ∙ (kept32 (x +ℤ clip32 (product_of a b)) range.0 range.1).0, added_fits x two fits_x t.2)
