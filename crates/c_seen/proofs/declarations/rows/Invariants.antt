use Rattle.std.proofs.Common.{◌≡◌, ◌++◌, drop}
use Rattle.std.specs.Prelude.{flat_map}
use Rattle.c_seen.specs.Meanings.{names_of}
use Rattle.c_seen.specs.Declarations.{row}
use Rattle.c_seen.proofs.declarations.rows.Given as goal

abbrev pub invariant-loop-row : goal.invariant-loop-row
invariant-loop-row l = l.seen.items ++ flat_map (row (names_of l.scope)) (drop l.row-index l.rows) ≡ l.fn.seen.items ++ flat_map (row (names_of l.scope)) l.fn.rows
