use Rattle.ir_mains.proofs.Mains.{main-is-main}
use Rattle.ir_mains.proofs.laws.main_is_main.Goals as goal

pub returns : goal.returns
returns c = main-is-main
