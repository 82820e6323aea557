use Rattle.ir_objects.proofs.Lines.{views-are-not-static}
use Rattle.ir_objects.proofs.laws.views_are_not_static.Goals as goal

pub returns : goal.returns
returns c = views-are-not-static
