use Rattle.lawful_objects.proofs.Declaring.{objects-declared}
use Rattle.lawful_objects.proofs.laws.objects_are_declared.Goals as goal

pub returns : goal.returns
returns c = objects-declared
