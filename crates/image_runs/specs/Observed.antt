-- What is observed of a run that paused so.
use Rattle.std.specs.Prelude.{ℤ, List}
use Rattle.sat_base.specs.Observation.{Observation, End, Stop, Going}
use Rattle.sat_base.specs.Observation as observed
use Rattle.rv_emulator.specs.declared.pause.Pause.{Pause}
use Rattle.rv_emulator.specs.declared.pause.Pause.TheVariants.{Budget, Wrote, Ended, Stopped, Fault}

-- where this was written before the pause
abbrev pub observation_with : Pause → List ℤ → Observation
observation_with Budget output = Going output
observation_with (Wrote sample) output = Going output
observation_with (Ended overflow count) output = End output overflow count
observation_with (Stopped site) output = Stop site output
observation_with (Fault pc kind) output = observed.Fault pc kind output

abbrev pub TellsSample : Pause → Type 0
TellsSample (Wrote sample) = Unit {0}
TellsSample pause = ⊥
