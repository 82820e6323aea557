use Rattle.lawful_ir.proofs.Lines.{conversions-stand}
use Rattle.lawful_ir.proofs.laws.conversions_stand.Goals as goal

pub returns : goal.returns
returns c = conversions-stand
