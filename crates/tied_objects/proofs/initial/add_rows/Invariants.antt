use Rattle.std.proofs.Common.{◌≡◌, ◌++◌, drop}
use Rattle.std.specs.Prelude.{flat_map}
use Rattle.tied_objects.specs.Initial.{filled_row}
use Rattle.tied_objects.proofs.initial.add_rows.Given as goal

abbrev pub invariant-loop-row : goal.invariant-loop-row
invariant-loop-row l = l.values ++ flat_map (filled_row l.width l.columns) (drop l.row-index l.rows) ≡ l.fn.values ++ flat_map (filled_row l.width l.columns) l.fn.rows
