use Rattle.std.proofs.Common.{◌≡◌, ◌++◌, drop}
use Rattle.c_seen.specs.Meanings.{names_of}
use Rattle.c_seen.specs.Declarations.{seen_in_lists, after_lists}
use Rattle.c_seen.proofs.statements.declarations.Given as goal

abbrev pub invariant-loop-list : goal.invariant-loop-list
invariant-loop-list l = (l.seen.items ++ seen_in_lists (names_of l.scope) l.depth (drop l.list-index l.lists) ≡ l.fn.seen.items ++ seen_in_lists (names_of l.fn.scope) l.depth l.fn.lists) × (after_lists (names_of l.scope) l.depth (drop l.list-index l.lists) ≡ after_lists (names_of l.fn.scope) l.depth l.fn.lists)
