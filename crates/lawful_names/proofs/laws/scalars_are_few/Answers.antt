use Rattle.lawful_names.proofs.OwnObjects.{scalars-few}
use Rattle.lawful_names.proofs.laws.scalars_are_few.Goals as goal

pub returns : goal.returns
returns c = scalars-few
