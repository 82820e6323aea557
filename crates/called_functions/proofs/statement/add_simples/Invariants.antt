use Rattle.std.proofs.Common.{◌≡◌, ◌++◌, drop}
use Rattle.std.specs.Prelude.{flat_map}
use Rattle.called_functions.specs.Called.{called_in_simple}
use Rattle.called_functions.proofs.statement.add_simples.Given as goal

abbrev pub invariant-loop-simple : goal.invariant-loop-simple
invariant-loop-simple l = l.called ++ flat_map called_in_simple (drop l.simple-index l.simples) ≡ l.fn.called ++ flat_map called_in_simple l.simples
