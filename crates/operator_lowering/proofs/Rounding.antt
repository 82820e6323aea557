-- The upper half of a number and 2^15, with its clip.
use Rattle.std.proofs.Common.{◌≡◌, ℤ, pos, ◌+ℤ◌, ◌-ℤ◌, ◌≤ℤ◌, ◌<ℤ◌, true, false, not, if◌then◌else◌, List, refl, sym, ap, ◌∙◌, subst, arith, ⊎_elim}
use Rattle.std.specs.Prelude.{FitsSigned}
use Rattle.std.specs.Int.{w32}
use Rattle.std.proofs.lemmas.Int.{ints}
use Rattle.sat_base.specs.Clip.{clip32}
use Rattle.operator_meaning.specs.Clipping.{rounding_clips}
use Rattle.operator_meaning.specs.Value.{floor, rounded}
use Rattle.template_runs.specs.Courses.{Final, Ends}
use Rattle.template_runs.specs.Values.{added, less, to_right_signed, upper}
use Rattle.operator_lowering.proofs.Numbers.{less_true, less_false, kept32, above32, range_of_kept32}
use Rattle.operator_lowering.proofs.Sums.{Below32, Wraps, exact, added_wraps, added_within, added_fits}
use Rattle.operator_lowering.proofs.Trees.{by_turned, ends, one}

pub upper_8 : upper 8 ≡ pos 32768
unfolding upper
upper_8 = refl

fits_half : FitsSigned w32 (pos 32768)
fits_half = grind (arith, ints)

pub upper_half : (a : ℤ) → FitsSigned w32 a → to_right_signed a 16 ≡ floor a 65536
unfolding to_right_signed
upper_half a fits = grind (arith, ints)

-- what is so great that 2^15 more is clipped has the upper half of the clip
upper_half_past : (a : ℤ) → FitsSigned w32 a → pos 2147483647 <ℤ (a +ℤ pos 32768) → to_right_signed (added a (pos 0)) 16 ≡ floor (pos 2147483647) 65536
unfolding to_right_signed added
upper_half_past a fits over = grind (arith, ints)

-- what the words make of a number, and what is left of Overflow
abbrev pub rounding : (v kept changed : ℤ) → List ℤ → Final
rounding v kept changed input =
    if not (less (added v (upper 8)) v) then Ends (to_right_signed (added v (upper 8)) 16) kept input
    else Ends (to_right_signed (added v (pos 0)) 16) changed input

module _ (v : ℤ) (fits : FitsSigned w32 v) where
  half_is : added v (upper 8) ≡ added v (pos 32768)
  half_is = ap (added v) upper_8

  sum_fits : FitsSigned w32 (added v (pos 32768))
  sum_fits = added_fits v (pos 32768) fits fits_half

  wraps : Wraps (v +ℤ pos 32768) (added v (pos 32768))
  wraps = added_wraps v (pos 32768) fits fits_half

  not_under : Below32 (v +ℤ pos 32768) → ⊥
  not_under under = let u = under.0 in grind (arith, ints)

  half_of : added v (pos 32768) ≡ clip32 (v +ℤ pos 32768) → to_right_signed (added v (upper 8)) 16 ≡ rounded v
  half_of e = ap (λ x. to_right_signed x 16) half_is ∙ upper_half (added v (pos 32768)) sum_fits ∙ ap (λ x. floor x 65536) e

  up : less (added v (upper 8)) v ≡ false → (to_right_signed (added v (upper 8)) 16 ≡ rounded v) × (rounding_clips v ≡ false)
  up test =
      let low : v ≤ℤ added v (pos 32768) = subst (λ x. v ≤ℤ x) half_is (less_false _ _ test) in
      let k = exact (v +ℤ pos 32768) (added v (pos 32768)) wraps (λ over is. not_over low is) (λ under is. not_under under) in
      (half_of k.0, k.1)
    where
      not_over : v ≤ℤ added v (pos 32768) → added v (pos 32768) ≡ v +ℤ pos 32768 -ℤ pos 4294967296 → ⊥
      not_over low is = grind (arith, ints)

  past : less (added v (upper 8)) v ≡ true → (to_right_signed (added v (pos 0)) 16 ≡ rounded v) × (rounding_clips v ≡ true)
  past test =
      let high : added v (pos 32768) <ℤ v = subst (λ x. x <ℤ v) half_is (less_true _ _ test) in
      let over = ⊎_elim (λ inside. absurd (not_inside high inside.1)) (λ outside. ⊎_elim (λ more. more.0.0) (λ fewer. absurd (not_under fewer.0)) outside) wraps in
      let k = above32 (v +ℤ pos 32768) over in
      (upper_half_past v fits over ∙ ap (λ x. floor x 65536) k.0, k.1)
    where
      not_inside : added v (pos 32768) <ℤ v → added v (pos 32768) ≡ v +ℤ pos 32768 → ⊥
      not_inside high is = grind (arith, ints)

  -- where no clip changes it
  pub plain_rounding : rounding_clips v ≡ false → to_right_signed (added v (upper 8)) 16 ≡ rounded v
  plain_rounding none =
      let range = range_of_kept32 (v +ℤ pos 32768) none in
      half_of (added_within v (pos 32768) fits fits_half range.0 range.1 ∙ (kept32 (v +ℤ pos 32768) range.0 range.1).0)

  -- without a flag
  pub rounding_clamp : (flag : ℤ) (input : List ℤ) → rounding v flag flag input ≡ Ends (rounded v) flag input
  rounding_clamp flag input = by_turned (less (added v (upper 8)) v) (λ e. ends (past e).0 refl) (λ e. ends (up e).0 refl)

  -- where no number changed before, and where one did
  pub rounding_flag : (flag : ℤ) (input : List ℤ) → rounding v flag (added (pos 0) (pos 1)) input ≡ Ends (rounded v) (if rounding_clips v then pos 1 else flag) input
  rounding_flag flag input =
      by_turned (less (added v (upper 8)) v) (λ e. let k = past e in ends k.0 (one ∙ ap (λ c. if c then pos 1 else flag) (sym k.1)))
      (λ e. let k = up e in ends k.0 (ap (λ c. if c then pos 1 else flag) (sym k.1)))

  pub rounding_set : (input : List ℤ) → rounding v (added (pos 0) (pos 1)) (added (pos 0) (pos 1)) input ≡ Ends (rounded v) (pos 1) input
  rounding_set input = by_turned (less (added v (upper 8)) v) (λ e. ends (past e).0 one) (λ e. ends (up e).0 one)
