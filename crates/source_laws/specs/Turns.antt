-- What more turns change in the runs of a source.
use Rattle.std.specs.Prelude.{◌≡◌, ℕ, ◌≤◌, ℤ, List, ◌++◌}
use Rattle.sat_base.specs.Observation.{Observation, Going, output_of}
use Rattle.c_typed.specs.declared.typed.Typed.{Typed}
use Rattle.typed_meaning.specs.Observed.{observed, trace_of}

-- the run is over: `main` was left, or it stopped
abbrev pub IsOver : Observation → Type 0
IsOver (Going output) = ⊥
IsOver observation = Unit {0}

-- One source on one input, at a number of turns and at a larger one.
pub record OnlyAdds (typed : Typed) (input : List ℤ) (turns more : ℕ) : Type 0 where
  -- a run that is over stays the same
  pub settled : IsOver (observed typed input turns) → observed typed input more ≡ observed typed input turns
  pub traced : IsOver (observed typed input turns) → trace_of typed input more ≡ trace_of typed input turns
  -- the output begins the other, and so do the sites that were evaluated
  pub output : (rest : List ℤ) × (output_of (observed typed input more) ≡ output_of (observed typed input turns) ++ rest)
  pub sites : (rest : List ℕ) × (trace_of typed input more ≡ trace_of typed input turns ++ rest)

-- the same of any two numbers of turns
abbrev pub TurnsOnlyAdd : Typed → List ℤ → Type 0
TurnsOnlyAdd typed input = (turns more : ℕ) → turns ≤ more → OnlyAdds typed input turns more
