-- Where each variable has its word: in the slot of its home, and else behind the slots of all homes, in the order of the
-- objects.
use Rattle.std.specs.Prelude.{◌≡◌, ℕ, zero, suc, ◌+◌, ◌<◌, Bool, true, false, List, Option, Some, None, length, slice_get}
use Rattle.operator_meaning.specs.declared.object.Object.{Object}
use Rattle.lawful_sources.specs.Objects.{is_scalar}
use Rattle.register_allocation.specs.declared.home.Home.{Home}
use Rattle.register_allocation.specs.declared.home.Home.TheVariants.{Slot}
use Rattle.register_allocation.specs.declared.table.Room.{Room}

-- ---- variables

abbrev pub scalar_where : Option Object → Bool
scalar_where (Some object) = is_scalar object
scalar_where None = false

-- the object of this number is a variable: no array and no view
abbrev pub is_scalar_at : List Object → ℕ → Bool
is_scalar_at objects number = scalar_where (slice_get objects number)

-- ---- words

abbrev pub home_in : Option Room → Option Home
home_in (Some room) = room.home
home_in None = None

abbrev pub home_at : List Room → ℕ → Option Home
home_at rooms number = home_in (slice_get rooms number)

-- the slot of an object that is a variable or not, where the next word of its own begins at this byte
abbrev pub slot_for : (scalar : Bool) → (next : ℕ) → Option Home → Option ℕ
slot_for true next (Some (Slot from)) = Some from
slot_for true next home = Some next
slot_for false next home = None

-- the bytes of the word of its own
abbrev pub own_bytes : (scalar : Bool) → Option Home → ℕ
own_bytes true (Some (Slot from)) = 0
own_bytes true home = 4
own_bytes false home = 0

-- those of the objects below this number
abbrev pub own_before : List Object → List Room → ℕ → ℕ
own_before objects rooms zero = 0
own_before objects rooms (suc number) = own_before objects rooms number + own_bytes (is_scalar_at objects number) (home_at rooms number)

-- the slot of the object of this number, where the slots of homes end at this byte
abbrev pub slot_at : List Object → List Room → (taken : ℕ) → ℕ → Option ℕ
slot_at objects rooms taken number = slot_for (is_scalar_at objects number) (taken + own_before objects rooms number) (home_at rooms number)

pub record AreSlots (objects : List Object) (rooms : List Room) (taken : ℕ) (slots : List (Option ℕ)) (end : ℕ) : Type 0 where
  pub count : length slots ≡ length objects
  pub each : (number : ℕ) → number < length objects → slice_get slots number ≡ Some (slot_at objects rooms taken number)
  pub ends : end ≡ taken + own_before objects rooms (length objects)
