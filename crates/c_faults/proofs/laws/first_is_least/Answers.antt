use Rattle.c_faults.proofs.Least.{first-least}
use Rattle.c_faults.proofs.laws.first_is_least.Goals as goal

pub returns : goal.returns
returns c = first-least
