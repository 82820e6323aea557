use Rattle.lawful_names.proofs.Data.{data-few}
use Rattle.lawful_names.proofs.laws.data_are_few.Goals as goal

pub returns : goal.returns
returns c = data-few
