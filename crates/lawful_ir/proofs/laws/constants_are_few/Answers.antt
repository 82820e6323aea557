use Rattle.lawful_ir.proofs.Lines.{constants-are-few}
use Rattle.lawful_ir.proofs.laws.constants_are_few.Goals as goal

pub returns : goal.returns
returns c = constants-are-few
