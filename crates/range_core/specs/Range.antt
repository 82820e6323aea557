-- Ranges as sets of whole numbers.
use Rattle.std.specs.Prelude.{ℤ, ◌≤ℤ◌, FitsSigned}
use Rattle.std.specs.Int.{w32}
use Rattle.range_core.specs.declared.range.Range.{Range}
use Rattle.range_core.specs.declared.range.Range.TheVariants.{Empty, Span}

-- the number is a value of the range
abbrev pub IsIn : ℤ → Range → Type 0
IsIn x Empty = ⊥
IsIn x (Span lo hi) = (lo ≤ℤ x) × (x ≤ℤ hi)

-- what holds of every range that is taken or given: some number lies in it if it is a span, and its ends have 32 bits
abbrev pub IsRange : Range → Type 0
IsRange Empty = Unit {0}
IsRange (Span lo hi) = (lo ≤ℤ hi) × FitsSigned w32 lo × FitsSigned w32 hi

-- each value of the inner range is one of the outer
abbrev pub Covers : Range → Range → Type 0
Covers outer inner = (x : ℤ) → IsIn x inner → IsIn x outer

-- the range has all numbers of a set, and each range that has them all covers it
pub record IsLeast (P : ℤ → Type 0) (range : Range) : Type 0 where
  pub has : (x : ℤ) → P x → IsIn x range
  pub least : (other : Range) → ((x : ℤ) → P x → IsIn x other) → Covers other range
