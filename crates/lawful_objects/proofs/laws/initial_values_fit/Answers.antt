use Rattle.lawful_objects.proofs.Initial.{initial-values-fit}
use Rattle.lawful_objects.proofs.laws.initial_values_fit.Goals as goal

pub returns : goal.returns
returns c = initial-values-fit
