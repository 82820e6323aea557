use Rattle.std.proofs.Common.{◌≡◌, drop}
use Rattle.c_types.specs.Sources.{source_of, after_items}
use Rattle.c_types.proofs.items.Source.items.Given as goal

abbrev pub invariant-loop-number : goal.invariant-loop-number
invariant-loop-number l = after_items (source_of l.self) l.number (drop l.number l.items) ≡ after_items (source_of l.fn.self) 0 l.fn.items
