-- Slots one behind the other, in the order of the objects.
use Rattle.std.specs.Prelude.{◌≡◌, ℕ, zero, suc, ◌+◌, ◌<◌, ◌≤◌, ◌==◌, List, [], ◌++◌, Option, Some, None, length, if◌then◌else◌}
use Rattle.operator_meaning.specs.declared.object.Object.{Object}
use Rattle.register_allocation.specs.declared.home.Home.{Home}
use Rattle.register_allocation.specs.declared.home.Home.TheVariants.{Slot}
use Rattle.register_allocation.specs.declared.home.Homes.{Homes}
use Rattle.register_allocation.specs.declared.claim.Claim.{Claim}
use Rattle.register_allocation.specs.Claims.{claim_of}
use Rattle.register_allocation.specs.Homes.{homes_at}
use Rattle.register_allocation.specs.Good.{slot_bytes, slots_end}
use Rattle.register_allocation.specs.Collected.{one_or_none}

-- the bytes of the slots of the objects below this number
abbrev pub bytes_before : List Object → ℕ → ℕ
bytes_before objects zero = 0
bytes_before objects (suc number) = bytes_before objects number + slot_bytes objects number

-- what an object adds to the list of a function
abbrev pub slot_for : ℕ → ℕ → Option Claim → Option Home
slot_for function from (Some claim) = if claim.function == function then Some (Slot from) else None
slot_for function from None = None

abbrev pub slot_in : List Object → ℕ → ℕ → Option Home
slot_in objects function number = slot_for function (bytes_before objects number) (claim_of objects number)

abbrev pub AreEmpty : List Homes → Type 0
AreEmpty lists = (function : ℕ) → homes_at lists function ≡ []

-- the list of this function, and no other, has the home at its end
abbrev pub AddsHome : List Homes → List Homes → ℕ → Home → Type 0
AddsHome old new function home = (f : ℕ) → f < length old → homes_at new f ≡ homes_at old f ++ one_or_none (if function == f then Some home else None)

pub record AddsSlot (objects : List Object) (number from end : ℕ) (old new : List Homes) : Type 0 where
  pub ends : end ≡ from + slot_bytes objects number
  pub within : from ≤ slots_end → end ≤ slots_end
  pub added : (f : ℕ) → f < length old → homes_at new f ≡ homes_at old f ++ one_or_none (slot_for f from (claim_of objects number))
