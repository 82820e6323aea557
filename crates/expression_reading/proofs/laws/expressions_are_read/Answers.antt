use Rattle.expression_reading.proofs.AllRight.{expressions_are_read}
use Rattle.expression_reading.proofs.laws.expressions_are_read.Goals as goal

pub returns : goal.returns
returns c = expressions_are_read
