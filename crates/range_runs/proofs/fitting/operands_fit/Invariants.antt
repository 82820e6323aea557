use Rattle.std.proofs.Common.{ℕ, ◌<◌, get_or}
use Rattle.sat_base.specs.declared.width.Width.TheVariants.{W32}
use Rattle.range_core.specs.declared.range.Range.TheVariants.{Empty}
use Rattle.operator_meaning.specs.Table.{row_of}
use Rattle.range_transfer.specs.Box.{FitsRange}
use Rattle.range_runs.proofs.fitting.operands_fit.Given as goal

abbrev pub invariant-loop-place : goal.invariant-loop-place
invariant-loop-place l = (k : ℕ) → k < l.place → FitsRange (get_or (row_of l.op).takes k W32) (get_or l.operands k Empty)
