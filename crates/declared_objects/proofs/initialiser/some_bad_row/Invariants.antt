use Rattle.std.proofs.Common.{◌≡◌, false, take}
use Rattle.std.specs.List.{list_any}
use Rattle.declared_objects.specs.Initialisers.{is_bad_row}
use Rattle.declared_objects.proofs.initialiser.some_bad_row.Given as goal

abbrev pub invariant-loop-row : goal.invariant-loop-row
invariant-loop-row l = list_any (is_bad_row l.columns) (take l.row-index l.rows) ≡ false
