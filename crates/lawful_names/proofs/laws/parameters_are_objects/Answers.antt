use Rattle.lawful_names.proofs.Parameters.{parameters-stand}
use Rattle.lawful_names.proofs.laws.parameters_are_objects.Goals as goal

pub returns : goal.returns
returns c = parameters-stand
