use Rattle.operator_meaning.proofs.Consequences.{counts_turn}
use Rattle.operator_meaning.proofs.laws.counts_turn.Goals as goal

pub returns : goal.returns
returns c = counts_turn
