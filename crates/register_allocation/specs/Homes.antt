-- The home of each object, by its number: the lists have those of each function in the order of the declarations.
use Rattle.std.specs.Prelude.{ℕ, zero, suc, ◌+◌, ◌==◌, List, [], Option, Some, None, slice_get, if◌then◌else◌}
use Rattle.operator_meaning.specs.declared.object.Object.{Object}
use Rattle.register_allocation.specs.declared.home.Home.{Home}
use Rattle.register_allocation.specs.declared.home.Homes.{Homes}
use Rattle.register_allocation.specs.declared.claim.Claim.{Claim}
use Rattle.register_allocation.specs.Claims.{claim_of}

abbrev pub homes_where : Option Homes → List Home
homes_where (Some homes) = homes.homes
homes_where None = []

-- the list of a function
abbrev pub homes_at : List Homes → ℕ → List Home
homes_at lists function = homes_where (slice_get lists function)

abbrev pub counts_for : ℕ → Option Claim → ℕ
counts_for function (Some claim) = if claim.function == function then 1 else 0
counts_for function None = 0

-- how many objects below this number have homes in the list of a function
abbrev pub homes_before : List Object → ℕ → ℕ → ℕ
homes_before objects function zero = 0
homes_before objects function (suc number) = homes_before objects function number + counts_for function (claim_of objects number)

abbrev pub home_where : List Object → List Homes → ℕ → Option Claim → Option Home
home_where objects lists number (Some claim) = slice_get (homes_at lists claim.function) (homes_before objects claim.function number)
home_where objects lists number None = None

-- the home of the object of this number, if it has one
abbrev pub home_of : List Object → List Homes → ℕ → Option Home
home_of objects lists number = home_where objects lists number (claim_of objects number)
