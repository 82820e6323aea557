use Rattle.ir_objects.proofs.Lines.{objects-are-declared}
use Rattle.ir_objects.proofs.laws.objects_are_declared.Goals as goal

pub returns : goal.returns
returns c = objects-are-declared
