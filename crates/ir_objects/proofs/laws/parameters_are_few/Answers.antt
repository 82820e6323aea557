use Rattle.ir_objects.proofs.Lines.{parameters-are-few}
use Rattle.ir_objects.proofs.laws.parameters_are_few.Goals as goal

pub returns : goal.returns
returns c = parameters-are-few
