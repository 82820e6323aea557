-- The steps of a command that reads several files.
use Rattle.std.specs.Prelude.{◌≡◌, ℕ, ◌+◌, ◌⊎◌, List, Option, take}
use Rattle.command_outcomes.specs.declared.outcome.Outcome.{Outcome}
use Rattle.store_io.specs.Outside.{Files}
use Rattle.sat_tool.specs.Run.{IsTextOf, Unread}
use Rattle.sat_tool.specs.World.{StoreView}

-- what was read of a file that may have at most so many bytes: all of it, or its front
abbrev pub IsFront : ℕ → List ℕ → List ℕ → Type 0
IsFront most bytes file = (bytes ≡ file) ⊎ (bytes ≡ take (most + 1) file)

-- the file of this name holds a text that is such
pub record Holds (P : List ℕ → Type 0) (files : Option Files) (name : List ℕ) : Type 0 where
  pub text : List ℕ
  pub of : IsTextOf files name text
  pub is : P text

-- the file of this name is not read, or its text is refused with such an outcome
pub data Lacks (IsUnfit : List ℕ → Outcome → Type 0) (name : List ℕ) (old new : StoreView) (outcome : Outcome) : Type 0 where
  unread : Unread name old new outcome → Lacks IsUnfit name old new outcome
  refused : (text : List ℕ) → IsTextOf old.files name text → IsUnfit text outcome → Lacks IsUnfit name old new outcome
