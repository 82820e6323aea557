use Rattle.std.proofs.Common.{ℕ, ◌<◌, ◌≤◌, get_or}
use Rattle.register_allocation.specs.declared.table.Room.{Room}
use Rattle.data_layout.specs.Homes.{room_end, EndsRight}
use Rattle.data_layout.proofs.homes.homes_end.Given as goal

abbrev pub invariant-loop-room : goal.invariant-loop-room
invariant-loop-room l = record {
  right : EndsRight l.end;
  behind : (k : ℕ) (d : Room) → k < l.room-index → room_end (get_or l.rooms k d) ≤ l.end;
}
