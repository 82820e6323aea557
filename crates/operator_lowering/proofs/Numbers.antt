-- Tests of numbers, and clips.
use Rattle.std.proofs.Common.{◌≡◌, ◌≢◌, ◌<◌, ◌≤◌, ℤ, pos, negsuc, ◌≤ℤ◌, ◌<ℤ◌, true, false, not, int_lt, sym, ap, ◌∙◌, arith, ⊎_elim}
use Rattle.std.specs.Prelude.{FitsSigned}
use Rattle.std.specs.Int.{w32, cast_unsigned}
use Rattle.std.specs.Ordering.{int_eq}
use Rattle.std.proofs.lemmas.Bool.{cases_Bool, ltb-true}
use Rattle.std.proofs.lemmas.Bool.Decides.{Decides-int_eq}
use Rattle.std.proofs.lemmas.Int.{ints, clamps}
use Rattle.sat_base.specs.Clip.{clip16, clip32}
use Rattle.operator_meaning.specs.Clipping.{changes16, changes32}
use Rattle.template_runs.specs.Values.{equal, less, below}

-- ---- tests

pub equal_true : (a b : ℤ) → equal a b ≡ true → a ≡ b
unfolding equal
equal_true a b e = (Decides-int_eq a b).0 e

pub equal_false : (a b : ℤ) → equal a b ≡ false → a ≢ b
unfolding equal
equal_false a b e same = let t = (Decides-int_eq a b).1 same in absurd (let f = e in cc)

pub less_true : (a b : ℤ) → less a b ≡ true → a <ℤ b
unfolding less
less_true a b e = grind (arith, ints)

pub less_false : (a b : ℤ) → less a b ≡ false → b ≤ℤ a
unfolding less
less_false a b e = grind (arith, ints)

pub below_true : (a b : ℤ) → below a b ≡ true → cast_unsigned w32 a < cast_unsigned w32 b
unfolding below
below_true a b e = ltb-true _ _ e

pub below_false : (a b : ℤ) → below a b ≡ false → cast_unsigned w32 b ≤ cast_unsigned w32 a
unfolding below
below_false a b e = grind arith

-- ---- clips

module _ (s : ℤ) where
  by_low : {P : Type 0} (low : ℤ) → (low ≤ℤ s → P) → (s <ℤ low → P) → P
  by_low {P} low more fewer = ⊎_elim (λ (e : int_lt s low ≡ true). fewer (lower low e)) (λ (e : int_lt s low ≡ false). more (higher low e)) (cases_Bool (int_lt s low))
    where
      lower : (low : ℤ) → int_lt s low ≡ true → s <ℤ low
      lower low e = grind (arith, ints)

      higher : (low : ℤ) → int_lt s low ≡ false → low ≤ℤ s
      higher low e = grind (arith, ints)

  pub clip_within16 : negsuc 32767 ≤ℤ s → s ≤ℤ pos 32767 → clip16 s ≡ s
  clip_within16 low high = grind (arith, ints, clamps)

  pub clip_above16 : pos 32767 ≤ℤ s → clip16 s ≡ pos 32767
  clip_above16 low = grind (arith, ints, clamps)

  pub clip_below16 : s ≤ℤ negsuc 32767 → clip16 s ≡ negsuc 32767
  clip_below16 high = grind (arith, ints, clamps)

  pub clip_within32 : negsuc 2147483647 ≤ℤ s → s ≤ℤ pos 2147483647 → clip32 s ≡ s
  clip_within32 low high = grind (arith, ints, clamps)

  pub clip_above32 : pos 2147483647 ≤ℤ s → clip32 s ≡ pos 2147483647
  clip_above32 low = grind (arith, ints, clamps)

  pub clip_below32 : s ≤ℤ negsuc 2147483647 → clip32 s ≡ negsuc 2147483647
  clip_below32 high = grind (arith, ints, clamps)

  unequal : (v : ℤ) → v ≢ s → int_eq v s ≡ false
  unequal v other = ⊎_elim (λ (e : int_eq v s ≡ true). absurd (other ((Decides-int_eq v s).0 e))) (λ (e : int_eq v s ≡ false). e) (cases_Bool (int_eq v s))

  -- a clip leaves a number, or changes it
  pub kept16 : negsuc 32767 ≤ℤ s → s ≤ℤ pos 32767 → (s ≡ clip16 s) × (changes16 s ≡ false)
  kept16 low high = let e = clip_within16 low high in (sym e, ap not ((Decides-int_eq (clip16 s) s).1 e))

  pub above16 : pos 32767 <ℤ s → (pos 32767 ≡ clip16 s) × (changes16 s ≡ true)
  above16 low =
      let e = clip_above16 (weaker low) in
      (sym e, ap not (unequal (clip16 s) (λ same. other low (sym e ∙ same))))
    where
      weaker : pos 32767 <ℤ s → pos 32767 ≤ℤ s
      weaker low = grind (arith, ints)

      other : pos 32767 <ℤ s → pos 32767 ≡ s → ⊥
      other low e = grind (arith, ints)

  pub below16 : s <ℤ negsuc 32767 → (negsuc 32767 ≡ clip16 s) × (changes16 s ≡ true)
  below16 high =
      let e = clip_below16 (weaker high) in
      (sym e, ap not (unequal (clip16 s) (λ same. other high (sym e ∙ same))))
    where
      weaker : s <ℤ negsuc 32767 → s ≤ℤ negsuc 32767
      weaker high = grind (arith, ints)

      other : s <ℤ negsuc 32767 → negsuc 32767 ≡ s → ⊥
      other high e = grind (arith, ints)

  pub kept32 : negsuc 2147483647 ≤ℤ s → s ≤ℤ pos 2147483647 → (s ≡ clip32 s) × (changes32 s ≡ false)
  kept32 low high = let e = clip_within32 low high in (sym e, ap not ((Decides-int_eq (clip32 s) s).1 e))

  pub above32 : pos 2147483647 <ℤ s → (pos 2147483647 ≡ clip32 s) × (changes32 s ≡ true)
  above32 low =
      let e = clip_above32 (weaker low) in
      (sym e, ap not (unequal (clip32 s) (λ same. other low (sym e ∙ same))))
    where
      weaker : pos 2147483647 <ℤ s → pos 2147483647 ≤ℤ s
      weaker low = grind (arith, ints)

      other : pos 2147483647 <ℤ s → pos 2147483647 ≡ s → ⊥
      other low e = grind (arith, ints)

  pub below32 : s <ℤ negsuc 2147483647 → (negsuc 2147483647 ≡ clip32 s) × (changes32 s ≡ true)
  below32 high =
      let e = clip_below32 (weaker high) in
      (sym e, ap not (unequal (clip32 s) (λ same. other high (sym e ∙ same))))
    where
      weaker : s <ℤ negsuc 2147483647 → s ≤ℤ negsuc 2147483647
      weaker high = grind (arith, ints)

      other : s <ℤ negsuc 2147483647 → negsuc 2147483647 ≡ s → ⊥
      other high e = grind (arith, ints)

  -- a number lies in the range of its clip, above it or below it
  pub by_range16 : {P : Type 0} → (negsuc 32767 ≤ℤ s → s ≤ℤ pos 32767 → P) → (pos 32767 <ℤ s → P) → (s <ℤ negsuc 32767 → P) → P
  by_range16 {P} within above below =
      by_low (negsuc 32767) (λ low. by_low (pos 32768) (λ high. above (more high)) (λ high. within low (fewer high))) below
    where
      more : pos 32768 ≤ℤ s → pos 32767 <ℤ s
      more high = grind (arith, ints)

      fewer : s <ℤ pos 32768 → s ≤ℤ pos 32767
      fewer high = grind (arith, ints)

  pub by_range32 : {P : Type 0} → (negsuc 2147483647 ≤ℤ s → s ≤ℤ pos 2147483647 → P) → (pos 2147483647 <ℤ s → P) → (s <ℤ negsuc 2147483647 → P) → P
  by_range32 {P} within above below =
      by_low (negsuc 2147483647) (λ low. by_low (pos 2147483648) (λ high. above (more high)) (λ high. within low (fewer high))) below
    where
      more : pos 2147483648 ≤ℤ s → pos 2147483647 <ℤ s
      more high = grind (arith, ints)

      fewer : s <ℤ pos 2147483648 → s ≤ℤ pos 2147483647
      fewer high = grind (arith, ints)

  -- where the clip changes nothing, the number lies in its range
  pub range_of_kept16 : changes16 s ≡ false → (negsuc 32767 ≤ℤ s) × (s ≤ℤ pos 32767)
  range_of_kept16 none = by_range16 (λ low high. (low, high)) (λ above. let t = (above16 above).1 in absurd (let f = none in cc)) (λ below. let t = (below16 below).1 in absurd (let f = none in cc))

  pub range_of_kept32 : changes32 s ≡ false → (negsuc 2147483647 ≤ℤ s) × (s ≤ℤ pos 2147483647)
  range_of_kept32 none = by_range32 (λ low high. (low, high)) (λ above. let t = (above32 above).1 in absurd (let f = none in cc)) (λ below. let t = (below32 below).1 in absurd (let f = none in cc))

pub clip_fits : (s : ℤ) → FitsSigned w32 (clip32 s)
clip_fits s = grind (arith, ints, clamps)
