use Rattle.operator_meaning.proofs.Consequences.{signs_differ}
use Rattle.operator_meaning.proofs.laws.signs_differ.Goals as goal

pub returns : goal.returns
returns c = signs_differ
