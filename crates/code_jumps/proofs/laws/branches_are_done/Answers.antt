use Rattle.code_jumps.proofs.Branches.{branches_are_done}
use Rattle.code_jumps.proofs.laws.branches_are_done.Goals as goal

pub returns : goal.returns
returns c = branches_are_done
