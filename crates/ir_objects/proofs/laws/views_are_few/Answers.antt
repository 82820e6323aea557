use Rattle.ir_objects.proofs.Lines.{views-are-few}
use Rattle.ir_objects.proofs.laws.views_are_few.Goals as goal

pub returns : goal.returns
returns c = views-are-few
