use Rattle.std.proofs.Common.{◌≡◌, ℕ, ◌+◌, ◌<◌, length}
use Rattle.std.specs.Prelude.{Some, slice_get}
use Rattle.data_layout.specs.Slots.{own_before, slot_at}
use Rattle.data_layout.proofs.slots.variable_slots.Given as goal

abbrev pub invariant-loop-number : goal.invariant-loop-number
invariant-loop-number l = record {
  count : length l.slots ≡ l.number;
  each : (k : ℕ) → k < l.number → slice_get l.slots k ≡ Some (slot_at l.objects l.rooms l.taken k);
  ends : l.end ≡ l.taken + own_before l.objects l.rooms l.number;
}
