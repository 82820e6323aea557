use Rattle.ir_objects.proofs.Lines.{data-are-few}
use Rattle.ir_objects.proofs.laws.data_are_few.Goals as goal

pub returns : goal.returns
returns c = data-are-few
