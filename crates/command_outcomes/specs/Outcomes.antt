-- What is told of a run by what was observed of it.
use Rattle.std.specs.Prelude.{ℕ, List, Some}
use Rattle.sat_base.specs.Observation.{Observation, End, Stop, Going, Fault}
use Rattle.command_outcomes.specs.declared.outcome.Outcome.{Outcome}
use Rattle.command_outcomes.specs.declared.outcome.Outcome.TheVariants as outcome
use Rattle.command_outcomes.specs.RunLines.{end_line, fault_line}

-- where such a line tells of a stop at a site
abbrev pub outcome_of : (stop_line : ℕ → List ℕ) → Observation → Outcome
outcome_of stop_line (End output overflow count) = outcome.Done (Some (end_line overflow count))
outcome_of stop_line (Stop site output) = outcome.Stopped (stop_line site)
outcome_of stop_line (Going output) = outcome.Going
outcome_of stop_line (Fault pc kind output) = outcome.Faulted (fault_line pc kind)
