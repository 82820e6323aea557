use Rattle.ir_objects.proofs.Lines.{objects-have-functions}
use Rattle.ir_objects.proofs.laws.objects_have_functions.Goals as goal

pub returns : goal.returns
returns c = objects-have-functions
