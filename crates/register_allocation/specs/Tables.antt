-- The homes by the numbers of the objects.
use Rattle.std.specs.Prelude.{◌≡◌, ℕ, ◌<◌, List, Some, length, slice_get, slice_index}
use Rattle.operator_meaning.specs.declared.object.Object.{Object}
use Rattle.register_allocation.specs.declared.home.Homes.{Homes}
use Rattle.register_allocation.specs.declared.table.Room.{Room}
use Rattle.register_allocation.specs.Homes.{homes_at, homes_before, home_of}
use Rattle.register_allocation.specs.Good.{slot_bytes}

abbrev pub room_of : List Object → List Homes → ℕ → Room
room_of objects lists number = record { home = home_of objects lists number; bytes = slot_bytes objects number }

pub record AreRooms (objects : List Object) (lists : List Homes) (rooms : List Room) : Type 0 where
  pub count : length rooms ≡ length objects
  pub each : (number : ℕ) → number < length objects → slice_get rooms number ≡ Some (room_of objects lists number)

-- how many objects below this number have homes in each list
abbrev pub AreCounts : List Object → ℕ → List ℕ → Type 0
AreCounts objects number counts = (f : ℕ) → f < length counts → slice_index counts f ≡ homes_before objects f number

-- each list has as many homes as are counted for it
abbrev pub AreFull : List Homes → List ℕ → Type 0
AreFull lists counts = (f : ℕ) → f < length lists → length (homes_at lists f) ≡ slice_index counts f
