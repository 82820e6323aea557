use Rattle.lawful_names.proofs.FewParameters.{parameters-few}
use Rattle.lawful_names.proofs.laws.parameters_are_few.Goals as goal

pub returns : goal.returns
returns c = parameters-few
