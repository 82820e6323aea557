use Rattle.lawful_names.proofs.Constants.{constants-few}
use Rattle.lawful_names.proofs.laws.constants_are_few.Goals as goal

pub returns : goal.returns
returns c = constants-few
