use Rattle.operator_meaning.proofs.Names.{names_are_distinct}
use Rattle.operator_meaning.proofs.laws.names_are_distinct.Goals as goal

pub returns : goal.returns
returns c = names_are_distinct
