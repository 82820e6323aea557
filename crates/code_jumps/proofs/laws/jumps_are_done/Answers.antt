use Rattle.code_jumps.proofs.Jumps.{jumps_are_done}
use Rattle.code_jumps.proofs.laws.jumps_are_done.Goals as goal

pub returns : goal.returns
returns c = jumps_are_done
