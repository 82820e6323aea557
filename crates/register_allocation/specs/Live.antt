-- Where a variable is live, and which variables conflict.
use Rattle.std.specs.Prelude.{◌≡◌, ℕ, Bool, true, false, List, ◌∷◌, ◌⊎◌, Option, Some, None, nat_eq}
use Rattle.std.specs.List.{list_any}
use Rattle.tree_walks.specs.Ways.{PartExit}
use Rattle.tree_walks.specs.Points.{SomePoint}
use Rattle.register_allocation.specs.Steps.{VariableStep, VariablePoint, ReadsVariable, WritesVariables, PassesCall}

abbrev pub step_writes : VariableStep → ℕ → Bool
step_writes (WritesVariables variables) variable = list_any (nat_eq variable) variables
step_writes step variable = false

-- the variable is read before it is written
pub data ReadsFirst (variable : ℕ) : List VariableStep → Type 0 where
  read_now : {later : List VariableStep} → ReadsFirst variable (ReadsVariable variable ∷ later)
  read_later : {step : VariableStep} {later : List VariableStep} → step_writes step variable ≡ false → ReadsFirst variable later → ReadsFirst variable (step ∷ later)

-- A variable is live at a point where some walk from there inside its function reads it before it is written.
abbrev pub IsLive : ℕ → VariablePoint → Type 0
IsLive variable point = (steps : List VariableStep) × (exit : PartExit) × point.onward steps exit × ReadsFirst variable steps

abbrev pub just_writes : Option VariableStep → ℕ → Bool
just_writes (Some step) variable = step_writes step variable
just_writes None variable = false

-- it has just been written there
abbrev pub IsJustWritten : ℕ → VariablePoint → Type 0
IsJustWritten variable point = just_writes point.mark variable ≡ true

-- a called function of the source has just returned there
abbrev pub IsAfterCall : VariablePoint → Type 0
IsAfterCall point = (function : ℕ) × (point.mark ≡ Some (PassesCall function))

-- A variable is live across a call where it is live just after a called function of the source has returned.
abbrev pub IsLiveAcross : List VariablePoint → ℕ → Type 0
IsLiveAcross points variable = SomePoint (λ point. IsAfterCall point × IsLive variable point) points

-- Two variables of a function conflict where at some point one is live and the other is live or has just been written.
abbrev pub Conflict : List VariablePoint → ℕ → ℕ → Type 0
Conflict points one other =
    SomePoint (λ point. (IsLive one point × (IsLive other point ⊎ IsJustWritten other point)) ⊎ (IsLive other point × IsJustWritten one point)) points
