-- Ranges of bitwise operations.
use Rattle.std.specs.Prelude.{◌≡◌, ◌⊎◌, ℕ, ◌^◌, ◌≤◌, ℤ, pos, ◌-ℤ◌, ◌≤ℤ◌, ◌<ℤ◌}
use Rattle.std.specs.Int.{int_min}
use Rattle.std.proofs.Math.IntN.{neg_ℤ}
use Rattle.range_core.specs.declared.range.Range.{Range}
use Rattle.range_core.specs.declared.range.Range.TheVariants.{Empty, Span}
use Rattle.range_core.specs.Range.{Covers}
use Rattle.range_transfer.specs.declared.bits.BitMark.{BitMark}
use Rattle.range_transfer.specs.declared.bits.BitMark.TheVariants.{And, Or, Xor}

-- the numbers from -p to p - 1: where p is 2^k, those of k bits and a sign
abbrev pub around : ℤ → Range
around p = Span (neg_ℤ p) (p -ℤ pos 1)

-- k is the least number of bits whose numbers, with a sign, cover both ranges
pub record IsHull (left right : Range) (k : ℕ) : Type 0 where
  pub left_fits : Covers (around (pos (2 ^ k))) left
  pub right_fits : Covers (around (pos (2 ^ k))) right
  pub least : (j : ℕ) → Covers (around (pos (2 ^ j))) left → Covers (around (pos (2 ^ j))) right → k ≤ j

abbrev pub IsPowerOfHull : Range → Range → ℤ → Type 0
IsPowerOfHull left right power = (k : ℕ) × IsHull left right k × (power ≡ pos (2 ^ k))

-- the bit hull of both spans, and its numbers that are not negative
abbrev pub IsBitHull : Range → Range → Range → Type 0
IsBitHull left right range = (power : ℤ) × IsPowerOfHull left right power × (range ≡ around power)

abbrev pub IsUnsignedHull : Range → Range → Range → Type 0
IsUnsignedHull left right range = (power : ℤ) × IsPowerOfHull left right power × (range ≡ Span (pos 0) (power -ℤ pos 1))

-- the spans from lo to hi and from low to high under `&`
pub record IsAndOfSpans (lo hi low high : ℤ) (range : Range) : Type 0 where
  pub both : pos 0 ≤ℤ lo → pos 0 ≤ℤ low → range ≡ Span (pos 0) (int_min hi high)
  pub first : pos 0 ≤ℤ lo → low <ℤ pos 0 → range ≡ Span (pos 0) hi
  pub second : lo <ℤ pos 0 → pos 0 ≤ℤ low → range ≡ Span (pos 0) high
  pub neither : lo <ℤ pos 0 → low <ℤ pos 0 → IsBitHull (Span lo hi) (Span low high) range

abbrev pub IsAndRange : Range → Range → Range → Type 0
IsAndRange (Span lo hi) (Span low high) range = IsAndOfSpans lo hi low high range
IsAndRange left right range = range ≡ Empty

-- under `|` and `^`
pub record IsOrOfSpans (lo hi low high : ℤ) (range : Range) : Type 0 where
  pub both : pos 0 ≤ℤ lo → pos 0 ≤ℤ low → IsUnsignedHull (Span lo hi) (Span low high) range
  pub negative : (lo <ℤ pos 0) ⊎ (low <ℤ pos 0) → IsBitHull (Span lo hi) (Span low high) range

abbrev pub IsOrRange : Range → Range → Range → Type 0
IsOrRange (Span lo hi) (Span low high) range = IsOrOfSpans lo hi low high range
IsOrRange left right range = range ≡ Empty

abbrev pub IsRangeOfBits : BitMark → Range → Range → Range → Type 0
IsRangeOfBits And left right range = IsAndRange left right range
IsRangeOfBits Or left right range = IsOrRange left right range
IsRangeOfBits Xor left right range = IsOrRange left right range
