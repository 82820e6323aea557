use Rattle.operator_meaning.proofs.Consequences.{norms_reach}
use Rattle.operator_meaning.proofs.laws.norms_reach.Goals as goal

pub returns : goal.returns
returns c = norms_reach
