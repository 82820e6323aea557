use Rattle.std.proofs.Common.{◌≡◌, ◌++◌, drop}
use Rattle.c_seen.specs.Meanings.{names_of}
use Rattle.c_seen.specs.Sources.{seen_in_items}
use Rattle.c_seen.proofs.items.items.Given as goal

abbrev pub invariant-loop-number : goal.invariant-loop-number
invariant-loop-number l =
    l.seen.items ++ seen_in_items (names_of l.scope) l.earlier l.number (drop l.number l.items) ≡ l.fn.seen.items ++ seen_in_items (names_of l.fn.scope) l.fn.earlier 0 l.fn.items
