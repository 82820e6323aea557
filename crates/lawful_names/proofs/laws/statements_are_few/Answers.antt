use Rattle.lawful_names.proofs.Counted.{statements-few}
use Rattle.lawful_names.proofs.laws.statements_are_few.Goals as goal

pub returns : goal.returns
returns c = statements-few
