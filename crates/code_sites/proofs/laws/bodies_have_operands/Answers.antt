use Rattle.code_sites.proofs.Numbered.{bodies-have-operands}
use Rattle.code_sites.proofs.laws.bodies_have_operands.Goals as goal

pub returns : goal.returns
returns c = bodies-have-operands
