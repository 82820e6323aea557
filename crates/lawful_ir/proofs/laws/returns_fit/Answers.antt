use Rattle.lawful_ir.proofs.Lines.{returns-fit}
use Rattle.lawful_ir.proofs.laws.returns_fit.Goals as goal

pub returns : goal.returns
returns c = returns-fit
