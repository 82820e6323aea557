-- The numbers that a site gives on a box.
use Rattle.std.specs.Prelude.{◌≡◌, ℤ, ◌≤ℤ◌, FitsSigned, List, [], Option, Some, MatchOption}
use Rattle.std.specs.List.{Contains}
use Rattle.std.specs.Int.{w32}
use Rattle.operator_meaning.specs.Value.{value_of}
use Rattle.operator_meaning.specs.declared.operator.Op.{Op}
use Rattle.operator_meaning.specs.declared.site.SiteKind.{SiteKind}
use Rattle.range_core.specs.declared.range.Range.{Range}
use Rattle.range_transfer.specs.declared.hull.Extremes.{Extremes}
use Rattle.range_transfer.specs.Box.{IsInBox, HasEmpty, corners}
use Rattle.range_transfer.specs.Site.{number_of}

-- a value of the operator on valid operands of the box
abbrev pub IsValueOn : Op → List Range → ℤ → Type 0
IsValueOn op ranges x = (args : List ℤ) × IsInBox args ranges × (value_of op args ≡ Some x)

-- each number of a function on the box lies between two of its numbers at corners
abbrev pub IsBetweenCorners : (List ℤ → ℤ) → List Range → Type 0
IsBetweenCorners f ranges = (args : List ℤ) → IsInBox args ranges →
    ((corner : List ℤ) × Contains (corners [] ranges) corner × (f corner ≤ℤ f args))
    × ((corner : List ℤ) × Contains (corners [] ranges) corner × (f args ≤ℤ f corner))

-- a number of 32 bits from one of the numbers of the box to another
abbrev pub LiesBetween : SiteKind → List Range → ℤ → Type 0
LiesBetween kind ranges x =
    FitsSigned w32 x
    × ((args : List ℤ) × IsInBox args ranges × (number_of kind args ≤ℤ x))
    × ((args : List ℤ) × IsInBox args ranges × (x ≤ℤ number_of kind args))

-- the least and the greatest of a function's numbers on these lists
pub record AreExtremes (f : List ℤ → ℤ) (corners : List (List ℤ)) (least most : ℤ) : Type 0 where
  pub low : (corner : List ℤ) × Contains corners corner × (f corner ≡ least)
  pub high : (corner : List ℤ) × Contains corners corner × (f corner ≡ most)
  pub between : (corner : List ℤ) → Contains corners corner → (least ≤ℤ f corner) × (f corner ≤ℤ most)

-- the extremes of a site's numbers at the corners; none where a range is empty
abbrev pub AreExtremesAt : SiteKind → List ℤ → List Range → Option Extremes → Type 0
AreExtremesAt kind given ranges result =
    MatchOption result (HasEmpty ranges) (λ e. AreExtremes (number_of kind) (corners given ranges) e.least e.most)
