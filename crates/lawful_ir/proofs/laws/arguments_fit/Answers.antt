use Rattle.lawful_ir.proofs.Lines.{arguments-fit}
use Rattle.lawful_ir.proofs.laws.arguments_fit.Goals as goal

pub returns : goal.returns
returns c = arguments-fit
