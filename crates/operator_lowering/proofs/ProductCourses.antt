-- The courses of products.
use Rattle.std.proofs.Common.{◌≡◌, ◌≢◌, ℤ, pos, negsuc, ◌+ℤ◌, ◌*ℤ◌, ◌≤ℤ◌, ◌<ℤ◌, true, false, refl, sym, ap, ◌∙◌, arith}
use Rattle.std.specs.Prelude.{FitsSigned}
use Rattle.std.specs.Int.{w16}
use Rattle.std.proofs.lemmas.Int.{ints}
use Rattle.sat_base.specs.Clip.{clip16, clip32}
use Rattle.operator_meaning.specs.Clipping.{changes16, changes32}
use Rattle.operator_meaning.specs.Value.{floor, product_of}
use Rattle.operator_meaning.specs.declared.operator.Op.TheVariants as op
use Rattle.operator_meaning.specs.declared.site.SiteKind.TheVariants.{Call}
use Rattle.operator_meaning.specs.declared.site.Form.{Form}
use Rattle.operator_meaning.specs.declared.site.Form.TheVariants.{Plain, Clamp, Flag}
use Rattle.operator_meaning.specs.declared.site.Guard.{Guard}
use Rattle.template_runs.specs.Values.{added, less, equal, multiplied, to_right_signed, upper}
use Rattle.operator_lowering.specs.Courses.{IsCourse}
use Rattle.operator_lowering.proofs.Numbers.{equal_true, equal_false, kept16, above16, range_of_kept16}
use Rattle.operator_lowering.proofs.Products.{product_is, fraction_is, rounded_fraction_is, twice_of, twice_exact, twice_past, not_past, not_past_below, past, not_past_kept}
use Rattle.operator_lowering.proofs.Trees.{by_test, by_turned, ends_same, ends_kept, ends_changed}

-- ---- fractions, of which 1 alone is clipped

upper_8 : upper 8 ≡ pos 32768
unfolding upper
upper_8 = refl

one_less : added (pos 32768) (negsuc 0) ≡ pos 32767
unfolding added
one_less = refl

module _ (v w : ℤ) (is : v ≡ w) (low : negsuc 32767 ≤ℤ w) (high : w ≤ℤ pos 32768) where
  at_one : equal v (upper 8) ≡ true → (added v (negsuc 0) ≡ clip16 w) × (changes16 w ≡ true)
  at_one e =
      let same = equal_true _ _ e ∙ upper_8 in
      let k = above16 w (over (sym is ∙ same)) in
      (ap (λ x. added x (negsuc 0)) same ∙ one_less ∙ k.0, k.1)
    where
      over : w ≡ pos 32768 → pos 32767 <ℤ w
      over e = grind (arith, ints)

  below_one : equal v (upper 8) ≡ false → (v ≡ clip16 w) × (changes16 w ≡ false)
  below_one e =
      let k = kept16 w low (less_high (λ same. equal_false _ _ e (is ∙ same ∙ sym upper_8))) in (is ∙ k.0, k.1)
    where
      less_high : w ≢ pos 32768 → w ≤ℤ pos 32767
      less_high other = grind (arith, ints)

  plain_one : changes16 w ≡ false → v ≡ clip16 w
  plain_one none = let range = range_of_kept16 w none in is ∙ (kept16 w range.0 range.1).0

-- the product of two fractions, as the words find it
mult_is : (a b : ℤ) → FitsSigned w16 a → FitsSigned w16 b
    → (to_right_signed (multiplied a b) 15 ≡ floor (a *ℤ b) 32768) × (negsuc 32767 ≤ℤ floor (a *ℤ b) 32768) × (floor (a *ℤ b) 32768 ≤ℤ pos 32768)
mult_is a b fits_a fits_b =
    let is = product_is a b fits_a fits_b in
    let k = fraction_is (a *ℤ b) is.1 is.2 in
    (ap (λ p. to_right_signed p 15) is.0 ∙ k.0, k.1, k.2)

mult_r_is : (a b : ℤ) → FitsSigned w16 a → FitsSigned w16 b
    → (to_right_signed (added (to_right_signed (multiplied a b) 14) (pos 1)) 1 ≡ floor (a *ℤ b +ℤ pos 16384) 32768)
    × (negsuc 32767 ≤ℤ floor (a *ℤ b +ℤ pos 16384) 32768) × (floor (a *ℤ b +ℤ pos 16384) 32768 ≤ℤ pos 32768)
mult_r_is a b fits_a fits_b =
    let is = product_is a b fits_a fits_b in
    let k = rounded_fraction_is (a *ℤ b) is.1 is.2 in
    (ap (λ p. to_right_signed (added (to_right_signed p 14) (pos 1)) 1) is.0 ∙ k.0, k.1, k.2)

pub mult : (form : Form) (guard : Guard) → IsCourse (Call op.Mult) form guard
mult Plain guard in_place site a b c flag input small asked =
    let k = mult_is a b asked.fit.0 asked.fit.1.0 in ends_same (plain_one _ _ k.0 k.1 k.2 (asked.unclipped refl))
mult Clamp guard in_place site a b c flag input small asked =
    let k = mult_is a b asked.fit.0 asked.fit.1.0 in
    by_turned (equal (to_right_signed (multiplied a b) 15) (upper 8)) (λ e. ends_same (at_one _ _ k.0 k.1 k.2 e).0) (λ e. ends_same (below_one _ _ k.0 k.1 k.2 e).0)
mult Flag guard in_place site a b c flag input small asked =
    let k = mult_is a b asked.fit.0 asked.fit.1.0 in
    let clip = changes16 (floor (a *ℤ b) 32768) in
    by_turned (equal (to_right_signed (multiplied a b) 15) (upper 8)) (λ e. let o = at_one _ _ k.0 k.1 k.2 e in ends_changed flag clip o.0 o.1)
    (λ e. let o = below_one _ _ k.0 k.1 k.2 e in ends_kept flag clip o.0 o.1)

pub mult_r : (form : Form) (guard : Guard) → IsCourse (Call op.MultR) form guard
mult_r Plain guard in_place site a b c flag input small asked =
    let k = mult_r_is a b asked.fit.0 asked.fit.1.0 in ends_same (plain_one _ _ k.0 k.1 k.2 (asked.unclipped refl))
mult_r Clamp guard in_place site a b c flag input small asked =
    let k = mult_r_is a b asked.fit.0 asked.fit.1.0 in
    by_turned (equal (to_right_signed (added (to_right_signed (multiplied a b) 14) (pos 1)) 1) (upper 8)) (λ e. ends_same (at_one _ _ k.0 k.1 k.2 e).0) (λ e. ends_same (below_one _ _ k.0 k.1 k.2 e).0)
mult_r Flag guard in_place site a b c flag input small asked =
    let k = mult_r_is a b asked.fit.0 asked.fit.1.0 in
    let clip = changes16 (floor (a *ℤ b +ℤ pos 16384) 32768) in
    by_turned (equal (to_right_signed (added (to_right_signed (multiplied a b) 14) (pos 1)) 1) (upper 8)) (λ e. let o = at_one _ _ k.0 k.1 k.2 e in ends_changed flag clip o.0 o.1)
    (λ e. let o = below_one _ _ k.0 k.1 k.2 e in ends_kept flag clip o.0 o.1)

-- ---- twice the product

least_less : added (negsuc 2147483647) (negsuc 0) ≡ pos 2147483647
unfolding added
least_less = refl

module _ (a b : ℤ) (fits_a : FitsSigned w16 a) (fits_b : FitsSigned w16 b) where
  clipped_twice : less (twice_of a b) (pos 0) ≡ true → less (multiplied a b) (pos 0) ≡ false
      → (added (twice_of a b) (negsuc 0) ≡ clip32 (product_of a b)) × (changes32 (product_of a b) ≡ true)
  clipped_twice two one = let k = twice_past a b fits_a fits_b (past a b fits_a fits_b two one) in (ap (λ x. added x (negsuc 0)) k.0 ∙ least_less ∙ k.1, k.2)

pub l_mult : (form : Form) (guard : Guard) → IsCourse (Call op.LMult) form guard
l_mult Plain guard in_place site a b c flag input small asked =
    let fits = asked.fit in ends_same (twice_exact a b fits.0 fits.1.0 (not_past_kept a b fits.0 fits.1.0 (asked.unclipped refl))).0
l_mult Clamp guard in_place site a b c flag input small asked =
    let fits = asked.fit in
    by_turned (less (twice_of a b) (pos 0))
    (λ two. by_test (less (multiplied a b) (pos 0)) (λ e. ends_same (twice_exact a b fits.0 fits.1.0 (not_past_below a b fits.0 fits.1.0 e)).0) (λ e. ends_same (clipped_twice a b fits.0 fits.1.0 two e).0))
    (λ two. ends_same (twice_exact a b fits.0 fits.1.0 (not_past a b fits.0 fits.1.0 two)).0)
l_mult Flag guard in_place site a b c flag input small asked =
    let fits = asked.fit in
    let clip = changes32 (product_of a b) in
    by_turned (less (twice_of a b) (pos 0))
    (λ two. by_test (less (multiplied a b) (pos 0)) (λ e. let k = twice_exact a b fits.0 fits.1.0 (not_past_below a b fits.0 fits.1.0 e) in ends_kept flag clip k.0 k.1)
    (λ e. let k = clipped_twice a b fits.0 fits.1.0 two e in ends_changed flag clip k.0 k.1))
    (λ two. let k = twice_exact a b fits.0 fits.1.0 (not_past a b fits.0 fits.1.0 two) in ends_kept flag clip k.0 k.1)
