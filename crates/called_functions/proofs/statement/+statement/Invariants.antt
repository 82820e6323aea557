use Rattle.std.proofs.Common.{◌≡◌, ◌++◌, drop}
use Rattle.std.specs.Prelude.{flat_map}
use Rattle.called_functions.specs.Called.{called_in_statement}
use Rattle.called_functions.proofs.statement.+statement.Given as goal

abbrev pub decreases-add_block : goal.decreases-add_block
decreases-add_block l = goal.size-add_block l

abbrev pub decreases-add_statement : goal.decreases-add_statement
decreases-add_statement l = goal.size-add_statement l

abbrev pub invariant-add_block-loop-stmt : goal.invariant-add_block-loop-stmt
invariant-add_block-loop-stmt l = l.called ++ flat_map called_in_statement (drop l.stmt-index l.stmt-items) ≡ l.initial.called ++ flat_map called_in_statement l.stmt-items
