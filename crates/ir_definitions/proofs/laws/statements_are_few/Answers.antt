use Rattle.ir_definitions.proofs.Lines.{statements-are-few}
use Rattle.ir_definitions.proofs.laws.statements_are_few.Goals as goal

pub returns : goal.returns
returns c = statements-are-few
