use Rattle.lawful_objects.proofs.Declaring.{objects-follow}
use Rattle.lawful_objects.proofs.laws.objects_follow.Goals as goal

pub returns : goal.returns
returns c = objects-follow
