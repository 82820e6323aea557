use Rattle.ir_objects.proofs.Lines.{objects-follow}
use Rattle.ir_objects.proofs.laws.objects_follow.Goals as goal

pub returns : goal.returns
returns c = objects-follow
