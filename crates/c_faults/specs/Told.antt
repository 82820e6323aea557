-- Which of several faults is told.
use Rattle.std.specs.Prelude.{List, [], ◌∷◌, Option, Some, None}
use Rattle.sat_base.specs.declared.fault.Fault.{Fault}
use Rattle.sat_base.specs.declared.fault.FaultKind.{FaultKind}
use Rattle.sat_base.specs.declared.name.At.{At}
use Rattle.sat_base.specs.Faults.{lesser}

-- a fault of this kind at the token
abbrev pub told : FaultKind → Option At → Option Fault
told kind None = None
told kind (Some at) = Some (record { kind = kind; tok = at.tok; pos = at.pos })

-- those that are there
abbrev pub kept : List (Option Fault) → List Fault
kept [] = []
kept (None ∷ rest) = kept rest
kept (Some fault ∷ rest) = fault ∷ kept rest

-- the fault that is told of these: the least by token and then by kind
abbrev pub first_of : List Fault → Option Fault
first_of [] = None
first_of (fault ∷ rest) = lesser (Some fault) (first_of rest)

abbrev pub first_among : List (Option Fault) → Option Fault
first_among [] = None
first_among (fault ∷ rest) = lesser fault (first_among rest)
