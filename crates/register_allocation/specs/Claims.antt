-- Which objects have homes: the tracked variables and the views of the functions.
use Rattle.std.specs.Prelude.{ℕ, ◌||◌, Bool, List, Option, Some, None, slice_get, if◌then◌else◌}
use Rattle.operator_meaning.specs.declared.object.Object.{Object}
use Rattle.ir_cuts.specs.Cuts.{is_tracked}
use Rattle.register_allocation.specs.declared.claim.Claim.{Claim}

abbrev pub claim_in : Option ℕ → Bool → Bool → Option Claim
claim_in (Some function) view tracked = if view || tracked then Some (record { function = function; view = view }) else None
claim_in None view tracked = None

abbrev pub claim_where : List Object → ℕ → Option Object → Option Claim
claim_where objects number (Some object) = claim_in object.function object.view (is_tracked objects number)
claim_where objects number None = None

-- what the object of this number asks for, if it has a home
abbrev pub claim_of : List Object → ℕ → Option Claim
claim_of objects number = claim_where objects number (slice_get objects number)

-- the bytes of its slot
abbrev pub bytes_of_claim : Claim → ℕ
bytes_of_claim claim = if claim.view then 12 else 4
