-- Sums and differences of 32 bits, with their clips.
use Rattle.std.proofs.Common.{◌≡◌, ℤ, pos, negsuc, ◌+ℤ◌, ◌-ℤ◌, ◌≤ℤ◌, ◌<ℤ◌, ◌⊎◌, inl, inr, ⊎_elim, true, false, refl, ap, ◌∙◌, arith}
use Rattle.std.specs.Int.{w32}
use Rattle.std.proofs.lemmas.Int.{ints}
use Rattle.sat_base.specs.Clip.{clip32}
use Rattle.operator_meaning.specs.Clipping.{changes32}
use Rattle.template_runs.specs.Values.{added, taken, to_left, to_right_signed, other_bits, upper}
use Rattle.std.specs.Prelude.{FitsSigned}
use Rattle.operator_lowering.proofs.Numbers.{kept32, above32, below32, by_range32}

-- ---- sums modulo 2^32

module _ (a b : ℤ) (fits_a : FitsSigned w32 a) (fits_b : FitsSigned w32 b) where
  pub added_within : negsuc 2147483647 ≤ℤ (a +ℤ b) → (a +ℤ b) ≤ℤ pos 2147483647 → added a b ≡ a +ℤ b
  unfolding added
  added_within low high = grind (arith, ints)

  pub added_above : pos 2147483647 <ℤ (a +ℤ b) → added a b ≡ a +ℤ b -ℤ pos 4294967296
  unfolding added
  added_above low = grind (arith, ints)

  pub added_below : (a +ℤ b) <ℤ negsuc 2147483647 → added a b ≡ a +ℤ b +ℤ pos 4294967296
  unfolding added
  added_below high = grind (arith, ints)

  pub taken_within : negsuc 2147483647 ≤ℤ (a -ℤ b) → (a -ℤ b) ≤ℤ pos 2147483647 → taken a b ≡ a -ℤ b
  unfolding taken
  taken_within low high = grind (arith, ints)

  pub taken_above : pos 2147483647 <ℤ (a -ℤ b) → taken a b ≡ a -ℤ b -ℤ pos 4294967296
  unfolding taken
  taken_above low = grind (arith, ints)

  pub taken_below : (a -ℤ b) <ℤ negsuc 2147483647 → taken a b ≡ a -ℤ b +ℤ pos 4294967296
  unfolding taken
  taken_below high = grind (arith, ints)

-- ---- signs

pub sign_negative : (s : ℤ) → negsuc 2147483647 ≤ℤ s → s <ℤ pos 0 → to_right_signed s 31 ≡ negsuc 0
unfolding to_right_signed
sign_negative s low high = grind (arith, ints)

pub sign_positive : (s : ℤ) → pos 0 ≤ℤ s → s ≤ℤ pos 2147483647 → to_right_signed s 31 ≡ pos 0
unfolding to_right_signed
sign_positive s low high = grind (arith, ints)

-- what a sum that wrapped stands for, by its sign
abbrev pub other_end : ℤ → ℤ
other_end s = other_bits (upper 0x80000) (to_right_signed s 31)

greatest : other_bits (upper 0x80000) (negsuc 0) ≡ pos 2147483647
unfolding other_bits upper
greatest = refl

least : other_bits (upper 0x80000) (pos 0) ≡ negsuc 2147483647
unfolding other_bits upper
least = refl

pub end_above : (s : ℤ) → negsuc 2147483647 ≤ℤ s → s <ℤ pos 0 → other_end s ≡ pos 2147483647
end_above s low high = ap (other_bits (upper 0x80000)) (sign_negative s low high) ∙ greatest

pub end_below : (s : ℤ) → pos 0 ≤ℤ s → s ≤ℤ pos 2147483647 → other_end s ≡ negsuc 2147483647
end_below s low high = ap (other_bits (upper 0x80000)) (sign_positive s low high) ∙ least

-- ---- the low half of a number

abbrev pub low_half : ℤ → ℤ
low_half s = to_right_signed (to_left s 16) 16

pub half_within : (s : ℤ) → negsuc 32767 ≤ℤ s → s ≤ℤ pos 32767 → low_half s ≡ s
unfolding to_right_signed to_left
half_within s low high = grind (arith, ints)

pub half_fits : (s : ℤ) → FitsSigned w32 s → (negsuc 32767 ≤ℤ low_half s) × (low_half s ≤ℤ pos 32767)
unfolding to_right_signed to_left
half_fits s fits = (grind (arith, ints), grind (arith, ints))

pub half_above : (s : ℤ) → pos 32767 <ℤ s → s ≤ℤ pos 65535 → low_half s ≡ s -ℤ pos 65536
unfolding to_right_signed to_left
half_above s low high = grind (arith, ints)

pub half_below : (s : ℤ) → negsuc 65535 ≤ℤ s → s <ℤ negsuc 32767 → low_half s ≡ s +ℤ pos 65536
unfolding to_right_signed to_left
half_below s low high = grind (arith, ints)

-- ---- a number and what it is modulo 2^32

-- the number is exact, or too great, or too small by less than 2^31
abbrev pub Within32 : ℤ → Type 0
Within32 t = (negsuc 2147483647 ≤ℤ t) × (t ≤ℤ pos 2147483647)

abbrev pub Above32 : ℤ → Type 0
Above32 t = (pos 2147483647 <ℤ t) × (t ≤ℤ pos 4294967295)

abbrev pub Below32 : ℤ → Type 0
Below32 t = (t <ℤ negsuc 2147483647) × (negsuc 4294967295 ≤ℤ t)

abbrev pub Wraps : (t s : ℤ) → Type 0
Wraps t s = (Within32 t × (s ≡ t)) ⊎ ((Above32 t × (s ≡ t -ℤ pos 4294967296)) ⊎ (Below32 t × (s ≡ t +ℤ pos 4294967296)))

pub added_wraps : (a b : ℤ) → FitsSigned w32 a → FitsSigned w32 b → Wraps (a +ℤ b) (added a b)
added_wraps a b fits_a fits_b =
    by_range32 (a +ℤ b) (λ low high. inl ((low, high), added_within a b fits_a fits_b low high))
    (λ over. inr (inl ((over, grind (arith, ints)), added_above a b fits_a fits_b over)))
    (λ under. inr (inr ((under, grind (arith, ints)), added_below a b fits_a fits_b under)))

pub taken_wraps : (a b : ℤ) → FitsSigned w32 a → FitsSigned w32 b → Wraps (a -ℤ b) (taken a b)
taken_wraps a b fits_a fits_b =
    by_range32 (a -ℤ b) (λ low high. inl ((low, high), taken_within a b fits_a fits_b low high))
    (λ over. inr (inl ((over, grind (arith, ints)), taken_above a b fits_a fits_b over)))
    (λ under. inr (inr ((under, grind (arith, ints)), taken_below a b fits_a fits_b under)))

-- what is exact needs no clip; what wrapped is clipped by its sign
abbrev pub IsExact : (t s : ℤ) → Type 0
IsExact t s = (s ≡ clip32 t) × (changes32 t ≡ false)

abbrev pub IsWrapped : (t s : ℤ) → Type 0
IsWrapped t s = (other_end s ≡ clip32 t) × (changes32 t ≡ true)

pub exact : (t s : ℤ) → Wraps t s → (Above32 t → s ≡ t -ℤ pos 4294967296 → ⊥) → (Below32 t → s ≡ t +ℤ pos 4294967296 → ⊥) → IsExact t s
exact t s wraps no_more no_less =
    ⊎_elim (λ inside. let k = kept32 t inside.0.0 inside.0.1 in (inside.1 ∙ k.0, k.1))
    (λ outside. ⊎_elim (λ more. absurd (no_more more.0 more.1)) (λ fewer. absurd (no_less fewer.0 fewer.1)) outside) wraps

pub wrapped : (t s : ℤ) → Wraps t s → (Within32 t → s ≡ t → ⊥) → IsWrapped t s
wrapped t s wraps not_inside =
    ⊎_elim (λ inside. absurd (not_inside inside.0 inside.1))
    (λ outside.
    ⊎_elim
    (λ more. let k = above32 t more.0.0 in let sign = negative more.0 more.1 in (end_above s sign.0 sign.1 ∙ k.0, k.1))
    (λ fewer. let k = below32 t fewer.0.0 in let sign = positive fewer.0 fewer.1 in (end_below s sign.0 sign.1 ∙ k.0, k.1))
    outside)
    wraps
  where
    negative : Above32 t → s ≡ t -ℤ pos 4294967296 → (negsuc 2147483647 ≤ℤ s) × (s <ℤ pos 0)
    negative range is = (grind (arith, ints), grind (arith, ints))

    positive : Below32 t → s ≡ t +ℤ pos 4294967296 → (pos 0 ≤ℤ s) × (s ≤ℤ pos 2147483647)
    positive range is = (grind (arith, ints), grind (arith, ints))

pub wraps_fit : (t s : ℤ) → Wraps t s → FitsSigned w32 s
wraps_fit t s wraps =
    ⊎_elim (λ inside. of_within inside.0 inside.1) (λ outside. ⊎_elim (λ more. of_above more.0 more.1) (λ fewer. of_below fewer.0 fewer.1) outside) wraps
  where
    of_within : Within32 t → s ≡ t → FitsSigned w32 s
    of_within range is = let low = range.0 in let high = range.1 in grind (arith, ints)

    of_above : Above32 t → s ≡ t -ℤ pos 4294967296 → FitsSigned w32 s
    of_above range is = let low = range.0 in let high = range.1 in grind (arith, ints)

    of_below : Below32 t → s ≡ t +ℤ pos 4294967296 → FitsSigned w32 s
    of_below range is = let high = range.0 in let low = range.1 in grind (arith, ints)

pub added_fits : (a b : ℤ) → FitsSigned w32 a → FitsSigned w32 b → FitsSigned w32 (added a b)
added_fits a b fits_a fits_b = wraps_fit (a +ℤ b) (added a b) (added_wraps a b fits_a fits_b)

pub taken_fits : (a b : ℤ) → FitsSigned w32 a → FitsSigned w32 b → FitsSigned w32 (taken a b)
taken_fits a b fits_a fits_b = wraps_fit (a -ℤ b) (taken a b) (taken_wraps a b fits_a fits_b)
