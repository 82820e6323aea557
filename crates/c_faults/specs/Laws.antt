-- What it means that one fault of several is told.
use Rattle.std.specs.Prelude.{◌≡◌, List, [], false, MatchOption}
use Rattle.std.specs.List.{All, Contains}
use Rattle.sat_base.specs.declared.fault.Fault.{Fault}
use Rattle.sat_base.specs.Faults.{is_before}
use Rattle.c_faults.specs.Told.{first_of}

-- it is one of them, and none of them comes before it, by token and then by kind
pub record IsLeast (faults : List Fault) (fault : Fault) : Type 0 where
  pub among : Contains faults fault
  pub least : All (λ other. is_before other fault ≡ false) faults

-- the fault that is told of several is the least of them, and none is told exactly where there are none
abbrev pub FirstIsLeast : Type 0
FirstIsLeast = (faults : List Fault) → MatchOption (first_of faults) (faults ≡ []) (IsLeast faults)
