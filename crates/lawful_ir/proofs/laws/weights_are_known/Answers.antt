use Rattle.lawful_ir.proofs.Lines.{weights-are-known}
use Rattle.lawful_ir.proofs.laws.weights_are_known.Goals as goal

pub returns : goal.returns
returns c = weights-are-known
