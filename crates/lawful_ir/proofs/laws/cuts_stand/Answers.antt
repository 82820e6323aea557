use Rattle.lawful_ir.proofs.Lines.{cuts-stand}
use Rattle.lawful_ir.proofs.laws.cuts_stand.Goals as goal

pub returns : goal.returns
returns c = cuts-stand
