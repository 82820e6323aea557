-- Slots as parts of the data memory.
use Rattle.std.specs.Prelude.{ℕ, ◌+◌, ◌%◌, ◌<◌, ◌==◌, ◌&&◌, nat_le, not, Bool, true, false, List, Option, Some, None, length, slice_get}
use Rattle.std.specs.List.{All}
use Rattle.register_allocation.specs.declared.home.Home.{Home}
use Rattle.register_allocation.specs.declared.home.Home.TheVariants.{Slot, Register}
use Rattle.register_allocation.specs.declared.table.Room.{Room}
use Rattle.register_allocation.specs.declared.spans.Span.{Span}
use Rattle.register_allocation.specs.Good.{slots_end}
use Rattle.register_allocation.specs.Collected.{collected}

abbrev pub home_lies_right : ℕ → Option Home → Bool
home_lies_right bytes (Some (Slot from)) = (from % 4 == 0) && nat_le (from + bytes) slots_end
home_lies_right bytes (Some (Register register)) = false
home_lies_right bytes None = true

-- what lives there has no home, or a slot that lies right
abbrev pub lies_right : Room → Bool
lies_right room = home_lies_right room.bytes room.home

abbrev pub span_of_home : ℕ → Option Home → Option Span
span_of_home bytes (Some (Slot from)) = Some (record { from = from; bytes = bytes })
span_of_home bytes home = None

abbrev pub span_where : Option Room → Option Span
span_where (Some room) = span_of_home room.bytes room.home
span_where None = None

abbrev pub span_at : List Room → ℕ → Option Span
span_at rooms number = span_where (slice_get rooms number)

-- the slots, in the order of the objects
abbrev pub spans_of : List Room → List Span
spans_of rooms = collected (span_at rooms) (length rooms)

abbrev pub HaveBytes : List Span → Type 0
HaveBytes spans = All (λ span. 0 < span.bytes) spans

-- a slot ends before another starts
abbrev pub precedes : Span → Span → Bool
precedes span next = nat_le (span.from + span.bytes) next.from

abbrev pub overlaps : Span → Span → Bool
overlaps span other = not (precedes span other) && not (precedes other span)
