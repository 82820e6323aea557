use Rattle.ir_mains.proofs.Mains.{has-main}
use Rattle.ir_mains.proofs.laws.has_main.Goals as goal

pub returns : goal.returns
returns c = has-main
