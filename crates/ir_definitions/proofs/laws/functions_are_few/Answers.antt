use Rattle.ir_definitions.proofs.Lines.{functions-are-few}
use Rattle.ir_definitions.proofs.laws.functions_are_few.Goals as goal

pub returns : goal.returns
returns c = functions-are-few
