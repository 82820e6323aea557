use Rattle.ir_objects.proofs.Lines.{objects-have-shapes}
use Rattle.ir_objects.proofs.laws.objects_have_shapes.Goals as goal

pub returns : goal.returns
returns c = objects-have-shapes
