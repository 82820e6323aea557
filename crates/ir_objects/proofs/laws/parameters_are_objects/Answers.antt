use Rattle.ir_objects.proofs.Lines.{parameters-are-objects}
use Rattle.ir_objects.proofs.laws.parameters_are_objects.Goals as goal

pub returns : goal.returns
returns c = parameters-are-objects
