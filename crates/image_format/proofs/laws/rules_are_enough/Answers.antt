use Rattle.image_format.proofs.Read.{are_enough}
use Rattle.image_format.proofs.laws.rules_are_enough.Goals as goal

pub returns : goal.returns
returns c = are_enough
