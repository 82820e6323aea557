use Rattle.ir_mains.proofs.Constants.{constants-stand}
use Rattle.ir_mains.proofs.laws.constants_stand.Goals as goal

pub returns : goal.returns
returns c = constants-stand
