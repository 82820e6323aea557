use Rattle.std.proofs.Common.{◌≡◌, length}
use Rattle.register_allocation.specs.Laid.{AreEmpty}
use Rattle.register_allocation.proofs.slots.empty_lists.Given as goal

abbrev pub invariant-loop : goal.invariant-loop
invariant-loop l = record { count : length l.lists.items ≡ l.counter; empty : AreEmpty l.lists.items }
