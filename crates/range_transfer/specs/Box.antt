-- Boxes of ranges, one for each operand, and their corners.
use Rattle.std.specs.Prelude.{◌≡◌, ◌⊎◌, ℤ, ◌≤ℤ◌, List, [], ◌∷◌, ◌++◌, take, Option, Some, None, MatchOption}
use Rattle.std.specs.List.{Contains}
use Rattle.sat_base.specs.declared.width.Width.{Width}
use Rattle.operator_meaning.specs.Table.{FitsWidth}
use Rattle.range_core.specs.declared.range.Range.{Range}
use Rattle.range_core.specs.declared.range.Range.TheVariants.{Empty, Span}
use Rattle.range_core.specs.Range.{IsIn}
use Rattle.range_transfer.specs.declared.corner.Corner.{Corner}

-- the range is empty, or lies in the width
abbrev pub FitsRange : Width → Range → Type 0
FitsRange width Empty = Unit {0}
FitsRange width (Span lo hi) = (lo ≤ℤ hi) × FitsWidth width lo × FitsWidth width hi

-- as many ranges as widths, each empty or in its width
abbrev pub FitRanges : List Width → List Range → Type 0
FitRanges [] [] = Unit {0}
FitRanges (width ∷ widths) (range ∷ ranges) = FitsRange width range × FitRanges widths ranges
FitRanges widths ranges = ⊥

-- the operands lie in the box: each in its range
abbrev pub IsInBox : List ℤ → List Range → Type 0
IsInBox [] [] = Unit {0}
IsInBox (x ∷ xs) (range ∷ ranges) = IsIn x range × IsInBox xs ranges
IsInBox xs ranges = ⊥

-- the corners of a box, each after the operands that are given, with the low end of a range before its high end
abbrev pub corners : List ℤ → List Range → List (List ℤ)
corners given [] = given ∷ []
corners given (Empty ∷ ranges) = []
corners given (Span lo hi ∷ ranges) = corners (given ++ lo ∷ []) ranges ++ corners (given ++ hi ∷ []) ranges

-- the operands of a corner
abbrev pub operands_of : Corner → List ℤ
operands_of corner = take corner.count (corner.first ∷ corner.second ∷ corner.third ∷ [])

-- the first of the lists that has the property
abbrev pub IsFirst : (List ℤ → Type 0) → List (List ℤ) → List ℤ → Type 0
IsFirst P [] args = ⊥
IsFirst P (corner ∷ corners) args = (P corner × (args ≡ corner)) ⊎ ((P corner → ⊥) × IsFirst P corners args)

-- none of the lists has it
abbrev pub IsNone : (List ℤ → Type 0) → List (List ℤ) → Type 0
IsNone P corners = (args : List ℤ) → Contains corners args → P args → ⊥

-- what is found is the first of the lists that has it; nothing where none has
abbrev pub Finds : (List ℤ → Type 0) → List (List ℤ) → Option Corner → Type 0
Finds P corners result = MatchOption result (IsNone P corners) (λ c. IsFirst P corners (operands_of c))

-- some operand has no value
abbrev pub HasEmpty : List Range → Type 0
HasEmpty [] = ⊥
HasEmpty (Empty ∷ ranges) = Unit {0}
HasEmpty (Span lo hi ∷ ranges) = HasEmpty ranges

-- the first corner of the box that has the property; none where no operands of the box have it
abbrev pub IsFirstCorner : (List ℤ → Type 0) → List Range → Option Corner → Type 0
IsFirstCorner P ranges None = (args : List ℤ) → IsInBox args ranges → P args → ⊥
IsFirstCorner P ranges (Some corner) = IsFirst P (corners [] ranges) (operands_of corner)
