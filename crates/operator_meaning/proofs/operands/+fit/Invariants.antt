use Rattle.std.proofs.Common.{length}
use Rattle.operator_meaning.proofs.operands.+fit.Given as goal

abbrev pub decreases-fit : goal.decreases-fit
decreases-fit l = length l.widths.now
