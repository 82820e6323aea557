use Rattle.std.proofs.Common.{◌≡◌}
use Rattle.register_allocation.specs.Collected.{collected}
use Rattle.register_allocation.specs.Overlaps.{span_at}
use Rattle.register_allocation.proofs.spans.spans.Given as goal

abbrev pub invariant-loop-room : goal.invariant-loop-room
invariant-loop-room l = l.spans.items ≡ collected (span_at l.rooms) l.room-index
