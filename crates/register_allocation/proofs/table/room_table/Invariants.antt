use Rattle.std.proofs.Common.{◌≡◌, ℕ, ◌<◌, length}
use Rattle.std.specs.Prelude.{Some, slice_get}
use Rattle.register_allocation.specs.Tables.{AreCounts, room_of}
use Rattle.register_allocation.proofs.table.room_table.Given as goal

abbrev pub invariant-loop-number : goal.invariant-loop-number
invariant-loop-number l = record {
  same : length l.counts.items ≡ length l.lists;
  counts : AreCounts l.objects l.number l.counts.items;
  count : length l.rooms ≡ l.number;
  each : (number : ℕ) → number < l.number → slice_get l.rooms number ≡ Some (room_of l.objects l.lists number);
}
