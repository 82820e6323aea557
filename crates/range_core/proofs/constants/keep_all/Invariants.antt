use Rattle.range_core.specs.Kept.{Adds, IsInRows}
use Rattle.range_core.proofs.Rows.{singles}
use Rattle.range_core.proofs.constants.keep_all.Given as goal

abbrev pub invariant-loop-x : goal.invariant-loop-x
invariant-loop-x l = Adds l.initial.values.items (IsInRows (singles l.xs) l.x-index) l.values.items
