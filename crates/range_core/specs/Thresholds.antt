-- The thresholds of a source, and ranges rounded out to them.
use Rattle.std.specs.Prelude.{◌≡◌, ◌↔◌, ℕ, ◌^◌, ◌<◌, ◌⊎◌, ℤ, pos, ◌+ℤ◌, ◌-ℤ◌, ◌≤ℤ◌, FitsSigned, List, [], ◌∷◌}
use Rattle.std.specs.List.{Contains}
use Rattle.std.specs.Int.{w32}
use Rattle.std.proofs.Math.IntN.{neg_ℤ}
use Rattle.range_core.specs.declared.range.Range.{Range}
use Rattle.range_core.specs.declared.range.Range.TheVariants.{Empty, Span}

-- 2^k, 2^k - 1 and -2^k
abbrev pub near_power : ℕ → List ℤ
near_power k = pos (2 ^ k) ∷ (pos (2 ^ k) -ℤ pos 1) ∷ neg_ℤ (pos (2 ^ k)) ∷ []

-- a constant, and the numbers beside it
abbrev pub near_constant : ℤ → List ℤ
near_constant c = (c -ℤ pos 1) ∷ c ∷ (c +ℤ pos 1) ∷ []

-- the number is 0, or near a power of two up to 2^31, or near one of the constants; and it has 32 bits
abbrev pub IsThreshold : List ℤ → ℤ → Type 0
IsThreshold constants x =
    FitsSigned w32 x
    × ((x ≡ pos 0)
    ⊎ ((k : ℕ) × (k < 32) × Contains (near_power k) x)
    ⊎ ((c : ℤ) × Contains constants c × Contains (near_constant c) x))

-- a list has the thresholds of the constants, and no other number
abbrev pub AreThresholds : List ℤ → List ℤ → Type 0
AreThresholds constants thresholds = (x : ℤ) → Contains thresholds x ↔ IsThreshold constants x

-- the greatest of the thresholds that are not above x
pub record IsBelow (thresholds : List ℤ) (x low : ℤ) : Type 0 where
  pub is_one : Contains thresholds low
  pub not_above : low ≤ℤ x
  pub greatest : (t : ℤ) → Contains thresholds t → t ≤ℤ x → t ≤ℤ low

-- the least of the thresholds that are not below x
pub record IsAbove (thresholds : List ℤ) (x high : ℤ) : Type 0 where
  pub is_one : Contains thresholds high
  pub not_below : x ≤ℤ high
  pub least : (t : ℤ) → Contains thresholds t → x ≤ℤ t → high ≤ℤ t

-- the low end goes down to a threshold, and the high end up to one
abbrev pub IsRoundedOut : List ℤ → Range → Range → Type 0
IsRoundedOut thresholds Empty rounded = rounded ≡ Empty
IsRoundedOut thresholds (Span lo hi) rounded =
    (low : ℤ) × (high : ℤ) × (rounded ≡ Span low high) × IsBelow thresholds lo low × IsAbove thresholds hi high
