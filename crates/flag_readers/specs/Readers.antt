-- What reads Overflow after a site, without an assignment to it in between.
use Rattle.std.specs.Prelude.{◌≡◌, ◌≢◌, ℕ, ◌<◌, ◌≤◌, List, [], ◌∷◌, ◌++◌, ◌⊎◌, length, Option, Some, None, slice_get}
use Rattle.sat_base.specs.declared.position.Pos.{Pos}
use Rattle.ir_arena.specs.declared.forms.Reader.{Reader}
use Rattle.ir_arena.specs.declared.forms.Reader.TheVariants.{At, End}
use Rattle.ir_arena.specs.Tree.{IrWhole}
use Rattle.flag_readers.specs.Ways.{WalkStep, ReadsFlag, AssignsFlag, LeavesFunction, PartExit, Through, Returned, Way, Origin, AfterSite, AfterCall}
use Rattle.flag_readers.specs.Trees.{body_ways, calls_at}

-- what can follow a place in a function, inside it and what it calls
abbrev pub onward : IrWhole → ℕ → Origin → Way
onward tree number = (body_ways (calls_at (length tree.functions) tree) (slice_get tree.functions number)).from

-- a function is left at its end, or by a `return`
pub data IsLeft : PartExit → Type 0 where
  through : IsLeft Through
  returned : IsLeft Returned

pub data FlagReach : Type 0 where
  Somewhere : FlagReach
  AtEnd : FlagReach

-- A walk from a place in a function. Where it leaves a function that it did not enter on its way, it may go on after any
-- call of that function; and where it leaves `main`, it may be at its end.
pub data FlagWalk (tree : IrWhole) : ℕ → Origin → List WalkStep → FlagReach → Type 0 where
  inside : {number : ℕ} {origin : Origin} {steps : List WalkStep} (exit : PartExit) → onward tree number origin steps exit → FlagWalk tree number origin steps Somewhere
  ends : {origin : Origin} {steps : List WalkStep} (exit : PartExit) → onward tree tree.main origin steps exit → IsLeft exit → FlagWalk tree tree.main origin steps AtEnd
  leaves : {number : ℕ} {origin : Origin} {reach : FlagReach} (caller : ℕ) (steps later : List WalkStep) (exit : PartExit)
      → onward tree number origin steps exit → IsLeft exit → FlagWalk tree caller (AfterCall number) later reach
      → FlagWalk tree number origin (steps ++ LeavesFunction number ∷ later) reach

-- none of these steps assigns Overflow
pub data KeepsFlag : List WalkStep → Type 0 where
  none : KeepsFlag []
  next : {step : WalkStep} {steps : List WalkStep} → step ≢ AssignsFlag → KeepsFlag steps → KeepsFlag (step ∷ steps)

-- A reader of a site is a read of Overflow, or the end of `main`, to which some walk from just after the site leads
-- without an assignment to Overflow. A stop is no reader.
pub data IsReader (tree : IrWhole) (site : ℕ) : Reader → Type 0 where
  reads : (number : ℕ) (steps : List WalkStep) (word : Pos) → FlagWalk tree number (AfterSite site) (steps ++ ReadsFlag word ∷ []) Somewhere → KeepsFlag steps → IsReader tree site (At word)
  at_end : (number : ℕ) (steps : List WalkStep) → FlagWalk tree number (AfterSite site) steps AtEnd → KeepsFlag steps → IsReader tree site End

-- ---- the first of them

-- a place in the text is not after another
abbrev pub IsNotAfter : Pos → Pos → Type 0
IsNotAfter one other = (one.line < other.line) ⊎ ((one.line ≡ other.line) × (one.col ≤ other.col))

-- readers come by their places, and the end of `main` comes last
abbrev pub ComesFirst : Reader → Reader → Type 0
ComesFirst (At one) (At other) = IsNotAfter one other
ComesFirst (At one) End = Unit {0}
ComesFirst End (At other) = ⊥
ComesFirst End End = Unit {0}

-- what a site's first reader is, where it has one
abbrev pub IsFirstReader : IrWhole → ℕ → Option Reader → Type 0
IsFirstReader tree site None = (reader : Reader) → IsReader tree site reader → ⊥
IsFirstReader tree site (Some first) = IsReader tree site first × ((reader : Reader) → IsReader tree site reader → ComesFirst first reader)
