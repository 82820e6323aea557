use Rattle.operator_meaning.proofs.Values.{values_fit}
use Rattle.operator_meaning.proofs.laws.values_fit.Goals as goal

pub returns : goal.returns
returns c = values_fit
