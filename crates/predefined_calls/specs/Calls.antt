-- The calls whose names are in scope everywhere, with what they take and give.
use Rattle.std.specs.Prelude.{ℕ, if◌then◌else◌, List, [], ◌∷◌, Option, Some, None, codes}
use Rattle.std.specs.List.{find}
use Rattle.std.specs.Str.{bytes_eq}
use Rattle.sat_base.specs.declared.width.Width.{Width}
use Rattle.sat_base.specs.declared.width.Width.TheVariants.{W16, W32}
use Rattle.operator_meaning.specs.declared.operator.Op.{Op}
use Rattle.operator_meaning.specs.declared.operator.Op.TheVariants.{Round}
use Rattle.operator_meaning.specs.declared.operator.TheConstants.{OPERATORS}
use Rattle.operator_meaning.specs.Table.{row_of}
use Rattle.c_typed.specs.declared.call.Callee.{Callee}
use Rattle.c_typed.specs.declared.call.Callee.TheVariants.{Function, Operator, Move16, Move32, Logic16, Logic32, Test, SampleIn, SampleLeft, SampleOut}

-- the calls that count, and those that read and write samples
unfoldable pub other_call : List ℕ → Option Callee
other_call name =
    if bytes_eq name (codes "move16") then Some Move16
    else (if bytes_eq name (codes "move32") then Some Move32
    else (if bytes_eq name (codes "logic16") then Some Logic16
    else (if bytes_eq name (codes "logic32") then Some Logic32
    else (if bytes_eq name (codes "test") then Some Test
    else (if bytes_eq name (codes "sample_in") then Some SampleIn
    else (if bytes_eq name (codes "sample_left") then Some SampleLeft
    else (if bytes_eq name (codes "sample_out") then Some SampleOut
    else None)))))))

-- the operator of this name, by the table; `round` has the name `round_fx` besides
unfoldable pub operator_of : List ℕ → Option Op
operator_of name = if bytes_eq name (codes "round_fx") then Some Round else find (λ op. bytes_eq name (row_of op).name) OPERATORS

abbrev pub other_or : Option Callee → Option Op → Option Callee
other_or (Some callee) op = Some callee
other_or None None = None
other_or None (Some op) = Some (Operator op)

-- what is called by the name, where it is predefined
abbrev pub callee_of : List ℕ → Option Callee
callee_of name = other_or (other_call name) (operator_of name)

-- the width of the number that is given, and none where nothing is
abbrev pub gives_of : Callee → Option Width
gives_of (Function number) = None
gives_of (Operator op) = Some (row_of op).gives
gives_of Move16 = None
gives_of Move32 = None
gives_of Logic16 = None
gives_of Logic32 = None
gives_of Test = None
gives_of SampleIn = Some W16
gives_of SampleLeft = Some W32
gives_of SampleOut = None

-- the widths of the arguments
abbrev pub takes_of : Callee → List Width
takes_of (Function number) = []
takes_of (Operator op) = (row_of op).takes
takes_of Move16 = []
takes_of Move32 = []
takes_of Logic16 = []
takes_of Logic32 = []
takes_of Test = []
takes_of SampleIn = []
takes_of SampleLeft = []
takes_of SampleOut = W16 ∷ []
