-- What the steps of a command come to.
use Rattle.std.specs.Prelude.{◌≡◌, ℕ, ◌⊎◌, List, Some, Result, Ok, Err}
use Rattle.command_outcomes.specs.declared.outcome.Outcome.{Outcome}
use Rattle.command_outcomes.specs.declared.outcome.Outcome.TheVariants.{NoMemory}
use Rattle.sat_tool.specs.Build.{IsUnfit, IsDone}
use Rattle.sat_tool.specs.Files.{Output}
use Rattle.sat_tool.specs.Run.{Writes}
use Rattle.sat_tool.specs.World.{StoreView}

-- whether the run goes on to its end or is over before, its outcome is such
abbrev pub InAnyCase : Result Outcome Outcome → (Outcome → Type 0) → Type 0
InAnyCase (Ok outcome) P = P outcome
InAnyCase (Err outcome) P = P outcome

-- nothing is made of the text: it is refused, or memory wants
abbrev pub IsNotCompiled : List ℕ → Outcome → Type 0
IsNotCompiled text outcome = IsUnfit text outcome ⊎ (outcome ≡ NoMemory)

-- what the text of a source comes to, whose image is to get this name
pub data BuildsText (text target : List ℕ) (old new : StoreView) : Outcome → Type 0 where
  stops : {outcome : Outcome} → IsNotCompiled text outcome → new.files ≡ old.files → BuildsText text target old new outcome
  writes : {output : Output} {done outcome : Outcome} → IsDone text target (Some output) done → Writes output done old new outcome
      → BuildsText text target old new outcome
