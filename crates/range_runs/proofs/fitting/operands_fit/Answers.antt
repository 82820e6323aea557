use Rattle.std.proofs.Common.{arith}
use Rattle.operator_meaning.specs.Table.{row_of}
use Rattle.range_runs.proofs.Widths.{all_fit}
use Rattle.range_runs.proofs.fitting.operands_fit.Goals as goal

pub returns : goal.returns
returns c = λ t. all_fit (row_of c.args.op).takes c.args.operands.now (omega (arith, c.if-operands-arity.false, c.arity.ensures)) (λ k less. c.loop-place.invariant k (omega (arith, less, c.loop-place-test.false)))
