-- A runner of a source, and what the answer of a run says of it.
use Rattle.std.specs.Prelude.{◌≡◌, ℕ, ℤ, List, [], Result}
use Rattle.sat_base.specs.Observation.{Observation, End, Stop, Going}
use Rattle.c_typed.specs.declared.typed.Typed.{Typed}
use Rattle.source_runs.specs.declared.halt.Halt.{Halt}
use Rattle.source_runs.specs.State.{Kept}
use Rattle.source_runs.specs.Follows.{Matches}
use Rattle.source_runs.specs.Runs.{Outcome}
use Rattle.typed_meaning.specs.Observed.{observation_of, observed}
use Rattle.source_meaning.specs.declared.runner.RunEnd.{RunEnd}
use Rattle.source_meaning.specs.declared.runner.RunEnd.TheVariants as end

-- the source, its input, and the output of the last run
pub record Running : Type 0 where
  pub source : Typed
  pub input : List ℤ
  pub output : List ℤ

-- before the first run
abbrev pub fresh : Typed → List ℤ → Running
fresh source input = record { source = source; input = input; output = [] }

-- what is observed of a run that ends so, with this output
abbrev pub observation_with : RunEnd → List ℤ → Observation
observation_with (end.Ended overflow count) output = End output overflow count
observation_with (end.Stopped site) output = Stop site output
observation_with end.Going output = Going output

-- With the output that is kept it is what is observed of every outcome to which what `main` left belongs.
abbrev pub IsEndOf : Result ℤ Halt → Kept → RunEnd → Type 0
IsEndOf left kept end = (outcome : Outcome ℤ) → Matches outcome left kept → observation_with end kept.output ≡ observation_of outcome

-- The end and the output after a run are what is observed of the source on the input at this number of turns.
abbrev pub IsObserved : Running → ℕ → Running → RunEnd → Type 0
IsObserved before turns after end = observation_with end after.output ≡ observed before.source before.input turns
