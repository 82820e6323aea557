-- Where the slots of all homes end.
use Rattle.std.specs.Prelude.{◌≡◌, ℕ, ◌+◌, ◌%◌, ◌≤◌, List, Option, Some}
use Rattle.std.specs.List.{All}
use Rattle.register_allocation.specs.declared.home.Home.{Home}
use Rattle.register_allocation.specs.declared.home.Home.TheVariants.{Slot}
use Rattle.register_allocation.specs.declared.table.Room.{Room}
use Rattle.register_allocation.specs.Good.{slots_end}

abbrev pub home_end : (bytes : ℕ) → Option Home → ℕ
home_end bytes (Some (Slot from)) = from + bytes
home_end bytes home = 0

-- where the slot of an object ends, if it has one
abbrev pub room_end : Room → ℕ
room_end room = home_end room.bytes room.home

-- a whole word ends there, within the bytes of slots
pub record EndsRight (end : ℕ) : Type 0 where
  pub whole : end % 4 ≡ 0
  pub within : end ≤ slots_end

abbrev pub EndRight : List Room → Type 0
EndRight rooms = All (λ room. EndsRight (room_end room)) rooms

-- all slots end there or before
pub record IsBehind (rooms : List Room) (end : ℕ) : Type 0 where
  pub right : EndsRight end
  pub behind : All (λ room. room_end room ≤ end) rooms
