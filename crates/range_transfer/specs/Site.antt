-- What sites compute from their operands, and when they stop.
use Rattle.std.specs.Prelude.{ℤ, pos, ◌+ℤ◌, ◌-ℤ◌, ◌*ℤ◌, ◌≤ℤ◌, ◌<ℤ◌, FitsSigned, List, [], ◌∷◌, unwrap_or}
use Rattle.std.specs.Int.{w32}
use Rattle.std.proofs.Math.IntN.{neg_ℤ}
use Rattle.sat_base.specs.declared.width.Width.{Width}
use Rattle.sat_base.specs.declared.width.Width.TheVariants.{W32}
use Rattle.operator_meaning.specs.Clipping.{Clips}
use Rattle.operator_meaning.specs.Table.{row_of}
use Rattle.operator_meaning.specs.Value.{value_of, IsInvalid}
use Rattle.operator_meaning.specs.declared.operator.Op.{Op}
use Rattle.operator_meaning.specs.declared.operator.Op.TheVariants.{AbsS, LAbs, NormS, NormL}
use Rattle.operator_meaning.specs.declared.site.SiteKind.{SiteKind}
use Rattle.operator_meaning.specs.declared.site.SiteKind.TheVariants.{Call, Sum, Difference, Product, Opposite, Bound, ViewBound, ViewEdge, Sample}
use Rattle.range_transfer.specs.declared.question.Question.{Question}
use Rattle.range_transfer.specs.declared.question.Question.TheVariants.{DoesClip, DoesStop}

-- the widths of the operands of a site; a view and a sample have none
abbrev pub widths_of : SiteKind → List Width
widths_of (Call op) = (row_of op).takes
widths_of Sum = W32 ∷ W32 ∷ []
widths_of Difference = W32 ∷ W32 ∷ []
widths_of Product = W32 ∷ W32 ∷ []
widths_of Opposite = W32 ∷ []
widths_of (Bound n) = W32 ∷ []
widths_of kind = []

-- the kinds of plain arithmetic
abbrev pub IsPlain : SiteKind → Type 0
IsPlain Sum = Unit {0}
IsPlain Difference = Unit {0}
IsPlain Product = Unit {0}
IsPlain Opposite = Unit {0}
IsPlain kind = ⊥

-- the kinds whose operands are numbers
abbrev pub HasBox : SiteKind → Type 0
HasBox ViewBound = ⊥
HasBox ViewEdge = ⊥
HasBox Sample = ⊥
HasBox kind = Unit {0}

-- the kinds that give numbers
abbrev pub GivesNumber : SiteKind → Type 0
GivesNumber (Call op) = Unit {0}
GivesNumber Sum = Unit {0}
GivesNumber Difference = Unit {0}
GivesNumber Product = Unit {0}
GivesNumber Opposite = Unit {0}
GivesNumber kind = ⊥

-- the number of a site, before it is known whether it has 32 bits
abbrev pub number_of : SiteKind → List ℤ → ℤ
number_of (Call op) args = unwrap_or (value_of op args) (pos 0)
number_of Sum (x ∷ y ∷ []) = x +ℤ y
number_of Difference (x ∷ y ∷ []) = x -ℤ y
number_of Product (x ∷ y ∷ []) = x *ℤ y
number_of Opposite (x ∷ []) = neg_ℤ x
number_of kind args = pos 0

-- a division without a value, an index out of its bound, a plain number beyond 32 bits
abbrev pub Stops : SiteKind → List ℤ → Type 0
Stops (Call op) args = IsInvalid op args
Stops (Bound n) (x ∷ []) = (pos 0 ≤ℤ x) × (x <ℤ pos n) → ⊥
Stops Sum args = FitsSigned w32 (number_of Sum args) → ⊥
Stops Difference args = FitsSigned w32 (number_of Difference args) → ⊥
Stops Product args = FitsSigned w32 (number_of Product args) → ⊥
Stops Opposite args = FitsSigned w32 (number_of Opposite args) → ⊥
Stops kind args = ⊥

-- what is asked of a corner: whether the operator clips, or the site stops
abbrev pub Answers : Question → List ℤ → Type 0
Answers (DoesClip op) args = Clips op args
Answers (DoesStop kind) args = Stops kind args

abbrev pub kind_of : Question → SiteKind
kind_of (DoesClip op) = Call op
kind_of (DoesStop kind) = kind

-- the operators whose values rise or fall on one side of 0, and turn there
abbrev pub TurnsAtZero : Op → Type 0
TurnsAtZero AbsS = Unit {0}
TurnsAtZero LAbs = Unit {0}
TurnsAtZero NormS = Unit {0}
TurnsAtZero NormL = Unit {0}
TurnsAtZero op = ⊥
