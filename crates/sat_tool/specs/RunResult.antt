-- What comes of a run, of an image or of a source, by what was observed of it.
use Rattle.std.specs.Prelude.{◌≡◌, ℕ, List, Option, Some}
use Rattle.sat_base.specs.Observation.{Observation, output_of}
use Rattle.sample_files.specs.Samples.{sample_bytes}
use Rattle.command_outcomes.specs.declared.outcome.Outcome.{Outcome}
use Rattle.command_outcomes.specs.Outcomes.{outcome_of}
use Rattle.sat_tool.specs.declared.run_result.RunResult.{RunResult}
use Rattle.sat_tool.specs.Files.{Output}

-- the output, and what the run comes to, where such a line tells of a stop
pub record IsResultOf (stop_line : ℕ → List ℕ) (seen : Observation) (result : RunResult) : Type 0 where
  pub output : result.output.items ≡ output_of seen
  pub outcome : result.outcome ≡ outcome_of stop_line seen

-- the output is written to the file of this name, however the run went, and what the run comes to is told
pub record IsWrittenAndTold (stop_line : ℕ → List ℕ) (seen : Observation) (target : List ℕ) (output : Option Output) (outcome : Outcome) : Type 0 where
  pub writes : output ≡ Some (record { name = target; bytes = sample_bytes (output_of seen) })
  pub is : outcome ≡ outcome_of stop_line seen
