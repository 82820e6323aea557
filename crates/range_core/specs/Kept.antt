-- What the code's list of thresholds has, on the way and at the end.
use Rattle.std.specs.Prelude.{◌↔◌, ℕ, ◌<◌, ◌⊎◌, ℤ, pos, negsuc, FitsSigned, List, slice_index_or}
use Rattle.std.specs.List.{Contains}
use Rattle.std.specs.List.Sorted.{IsSorted}
use Rattle.std.specs.Ordering.{int_cmp}
use Rattle.std.specs.Int.{w32}
use Rattle.range_core.specs.Thresholds.{near_constant}

-- the new list has what the old one has, and what is of the set
abbrev pub Adds : List ℤ → (ℤ → Type 0) → List ℤ → Type 0
Adds old P new = (y : ℤ) → Contains new y ↔ (Contains old y ⊎ P y)

-- a number of 32 bits that stands in one of the first n rows
abbrev pub IsInRows : (ℕ → List ℤ) → ℕ → ℤ → Type 0
IsInRows rows n y = FitsSigned w32 y × ((k : ℕ) × (k < n) × Contains (rows k) y)

-- the row of the constant at this place
abbrev pub constant_row : List ℤ → ℕ → List ℤ
constant_row constants k = near_constant (slice_index_or constants k (pos 0))

-- a number of 32 bits that stands in the list
abbrev pub IsKept : List ℤ → ℤ → Type 0
IsKept xs y = FitsSigned w32 y × Contains xs y

-- ascending, from the least number of 32 bits to the greatest
pub record IsLadder (values : List ℤ) : Type 0 where
  pub sorted : IsSorted int_cmp values
  pub lowest : Contains values (negsuc 2147483647)
  pub highest : Contains values (pos 2147483647)
