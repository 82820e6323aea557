-- What `run-source` comes to on the texts of its source and of its input.
use Rattle.std.specs.Prelude.{◌≡◌, ℕ, ℤ, List, Option}
use Rattle.c_typed.specs.declared.typed.Typed.{Typed}
use Rattle.typed_meaning.specs.Observed.{observed}
use Rattle.sat_compile.specs.Accepted.{IsSource}
use Rattle.sat_compile.specs.Causes.{TellsNoSource}
use Rattle.command_outcomes.specs.declared.outcome.Outcome.{Outcome}
use Rattle.command_outcomes.specs.declared.outcome.Outcome.TheVariants.{Refused}
use Rattle.command_outcomes.specs.RunLines.{source_stop_line}
use Rattle.sat_tool.specs.Files.{Output}
use Rattle.sat_tool.specs.Input.{IsInputOf}
use Rattle.sat_tool.specs.RunResult.{IsWrittenAndTold}

-- there is no source in the text, as a line tells
pub record IsNotRun (text : List ℕ) (outcome : Outcome) : Type 0 where
  pub line : List ℕ
  pub tells : TellsNoSource text line
  pub is : outcome ≡ Refused line

-- both are what they should be; what is observed of the source on the samples at so many turns is told, and its output is
-- written
pub record IsRunOfSource (source_text text target : List ℕ) (turns : ℕ) (output : Option Output) (outcome : Outcome) : Type 0 where
  pub typed : Typed
  pub functions : List ℕ
  pub of : IsSource source_text typed functions
  pub samples : List ℤ
  pub are : IsInputOf samples text
  pub result : IsWrittenAndTold (source_stop_line typed.sites) (observed typed samples turns) target output outcome
