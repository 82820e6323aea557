use Rattle.operator_meaning.proofs.Consequences.{shifts_round}
use Rattle.operator_meaning.proofs.laws.shifts_round.Goals as goal

pub returns : goal.returns
returns c = shifts_round
