use Rattle.range_core.specs.Kept.{Adds, IsInRows, constant_row}
use Rattle.range_core.proofs.constants.keep_constants.Given as goal

abbrev pub invariant-loop-constant : goal.invariant-loop-constant
invariant-loop-constant l = Adds l.initial.values.items (IsInRows (constant_row l.constants) l.constant-index) l.values.items
