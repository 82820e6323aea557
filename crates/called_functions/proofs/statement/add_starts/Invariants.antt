use Rattle.std.proofs.Common.{◌≡◌, ◌++◌, drop}
use Rattle.std.specs.Prelude.{flat_map}
use Rattle.called_functions.specs.Called.{called_in_start}
use Rattle.called_functions.proofs.statement.add_starts.Given as goal

abbrev pub invariant-loop-start : goal.invariant-loop-start
invariant-loop-start l = l.called ++ flat_map called_in_start (drop l.start-index l.starts) ≡ l.fn.called ++ flat_map called_in_start l.starts
