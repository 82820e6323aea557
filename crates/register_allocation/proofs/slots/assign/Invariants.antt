use Rattle.std.proofs.Common.{◌≡◌, ℕ, ◌<◌, ◌≤◌, length}
use Rattle.register_allocation.specs.Good.{slots_end}
use Rattle.register_allocation.specs.Collected.{collected}
use Rattle.register_allocation.specs.Homes.{homes_at}
use Rattle.register_allocation.specs.Laid.{bytes_before, slot_in}
use Rattle.register_allocation.proofs.slots.assign.Given as goal

abbrev pub invariant-loop-number : goal.invariant-loop-number
invariant-loop-number l = record {
  count : length l.lists.items ≡ length l.ir.functions;
  placed : l.end ≡ bytes_before l.objects l.number;
  within : l.end ≤ slots_end;
  filled : (f : ℕ) → f < length l.lists.items → homes_at l.lists.items f ≡ collected (slot_in l.objects f) l.number;
}
