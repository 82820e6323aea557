use Rattle.std.proofs.Common.{◌≢◌, ℕ, ◌<◌, get_or}
use Rattle.operator_meaning.specs.Table.{row_of}
use Rattle.operator_meaning.specs.declared.operator.Op.TheVariants.{Add}
use Rattle.operator_meaning.proofs.table.of_name.Given as goal

-- no operator so far has this name
abbrev pub invariant-loop-op : goal.invariant-loop-op
invariant-loop-op l = (k : ℕ) → k < l.op-index → (row_of (get_or l.op-items k Add)).name ≢ l.text
