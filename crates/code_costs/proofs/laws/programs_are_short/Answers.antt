use Rattle.code_costs.proofs.Statements.{programs_are_short}
use Rattle.code_costs.proofs.laws.programs_are_short.Goals as goal

pub returns : goal.returns
returns c = programs_are_short
