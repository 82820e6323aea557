use Rattle.operator_lowering.proofs.Templates.{holds}
use Rattle.operator_lowering.proofs.laws.templates_hold.Goals as goal

pub returns : goal.returns
returns c = λ k form guard site regs allowed small own. holds k form guard site regs allowed small own
