-- That code does what a run does.
use Rattle.std.specs.Prelude.{◌≡◌, ℕ, List, Result, Ok, Err}
use Rattle.source_runs.specs.declared.halt.Halt.{Halt}
use Rattle.source_runs.specs.declared.halt.Halt.TheVariants.{Memory, Stopped, Going}
use Rattle.source_runs.specs.State.{Kept}
use Rattle.source_runs.specs.Runs.{Run, Outcome, Gives, Stops, Goes}

-- The code's result and what is kept after it are those of the outcome. Nothing is said at want of memory.
abbrev pub Matches : {A : Type 0} → Outcome A → Result A Halt → Kept → Type 0
Matches outcome (Err Memory) kept = Unit {0}
Matches (Gives a s) (Ok b) kept = (b ≡ a) × (kept ≡ s.kept)
Matches (Stops site s) (Err (Stopped number)) kept = (number ≡ site) × (kept ≡ s.kept)
Matches (Goes s) (Err Going) kept = kept ≡ s.kept
Matches outcome result kept = ⊥

-- from what is kept before, whatever sites were evaluated
pub record Follows {A : Type 0} (run : Run A) (result : Result A Halt) (before after : Kept) : Type 0 where
  pub from : (sites : List ℕ) → Matches (run (record { kept = before; sites = sites })) result after

-- the same of a run that changes nothing
abbrev pub Answers : {A : Type 0} → Run A → Result A Halt → Type 0
Answers run result = (kept : Kept) → Follows run result kept kept
