use Rattle.ir_objects.proofs.Lines.{scalars-are-few}
use Rattle.ir_objects.proofs.laws.scalars_are_few.Goals as goal

pub returns : goal.returns
returns c = scalars-are-few
