use Rattle.lawful_names.proofs.Objects.{objects-shaped}
use Rattle.lawful_names.proofs.laws.objects_have_shapes.Goals as goal

pub returns : goal.returns
returns c = objects-shaped
