-- Calls of functions, the run of `main`, and what is observed of it.
use Rattle.std.specs.Prelude.{ℕ, zero, suc, ℤ, pos, Bool, ◌&&◌, List, [], length, Option, Some, None, is_some, slice_get, codes}
use Rattle.std.specs.List.{position}
use Rattle.std.specs.Str.{bytes_eq}
use Rattle.sat_base.specs.declared.width.Width.{Width}
use Rattle.sat_base.specs.Observation.{Observation, End, Stop, Going}
use Rattle.c_typed.specs.declared.statement.TypedBlock.{TypedBlock}
use Rattle.c_typed.specs.declared.typed.Typed.{Typed}
use Rattle.c_typed.specs.declared.typed.TypedFunction.{TypedFunction}
use Rattle.source_runs.specs.declared.halt.Flow.{Flow}
use Rattle.source_runs.specs.declared.halt.Flow.TheVariants.{Return}
use Rattle.source_runs.specs.declared.location.Given.{Given}
use Rattle.source_runs.specs.State.{SourceState, converted}
use Rattle.source_runs.specs.Runs.{Outcome, Gives, Stops, Goes, Run, gives, ◌>>=◌, ◌>>◌, changing, state_after}
use Rattle.source_runs.specs.Steps.{given_to_all, opening_state}
use Rattle.source_runs.specs.Calls.{table_numbered}
use Rattle.typed_meaning.specs.Expressions.{Setting, Called}
use Rattle.typed_meaning.specs.Statements.{block_meaning}

-- ---- functions

-- a returned value is converted to what the function gives; else 0 stands for it, which is not used
abbrev pub returned : Option Width → Flow → ℤ
returned (Some width) (Return value) = converted width value
returned gives_width flow = pos 0

unfoldable pub body_meaning : Setting → Called → Option TypedBlock → Run Flow
body_meaning here called None = gives (Return (pos 0))
body_meaning here called (Some body) = block_meaning here called body

-- a function has what is given to its parameters, and then its body is done
unfoldable pub function_meaning : Setting → Called → Option TypedFunction → List Given → Run ℤ
function_meaning here called None givens = gives (pos 0)
function_meaning here called (Some function) givens =
    changing (given_to_all here.objects function.params givens) >> body_meaning here called function.body
    >>= (λ flow. gives (returned function.gives flow))

abbrev pub setting_of : Typed → ℕ → Setting
setting_of typed turns = record { objects = typed.objects; table = table_numbered typed.weights; turns = turns }

-- A call of a function where so many functions may be active in one another. As no function reaches itself, as many
-- as there are functions suffice.
unfoldable pub called_at : ℕ → Typed → ℕ → Called
called_at zero typed turns number givens = gives (pos 0)
called_at (suc depth) typed turns number givens =
    function_meaning (setting_of typed turns) (called_at depth typed turns) (slice_get typed.functions number) givens

-- ---- the run

abbrev pub is_main : TypedFunction → Bool
is_main function = bytes_eq function.name (codes "main") && is_some function.body

abbrev main_at : Option ℕ → Typed → ℕ → Run ℤ
main_at None typed turns = gives (pos 0)
main_at (Some number) typed turns = called_at (length typed.functions) typed turns number []

-- `main` starts the run, and its end ends it
abbrev pub source_run : Typed → ℕ → Run ℤ
source_run typed turns = main_at (position is_main typed.functions) typed turns

abbrev pub opening : Typed → List ℤ → SourceState
opening typed input = record { kept = opening_state typed.objects input; sites = [] }

-- the outcome of a run on an input at a number of turns
abbrev pub outcome_of : Typed → List ℤ → ℕ → Outcome ℤ
outcome_of typed input turns = source_run typed turns (opening typed input)

abbrev pub observation_of : Outcome ℤ → Observation
observation_of (Gives value s) = End s.kept.output s.kept.overflow s.kept.count
observation_of (Stops site s) = Stop site s.kept.output
observation_of (Goes s) = Going s.kept.output

-- what is observed of it
abbrev pub observed : Typed → List ℤ → ℕ → Observation
observed typed input turns = observation_of (outcome_of typed input turns)

-- the sites that it evaluates, in order
abbrev pub trace_of : Typed → List ℤ → ℕ → List ℕ
trace_of typed input turns = (state_after (outcome_of typed input turns)).sites
