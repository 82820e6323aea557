use Rattle.first_form.proofs.Numbers.{operands}
use Rattle.first_form.proofs.laws.operands.Goals as goal

pub returns : goal.returns
returns c = operands
