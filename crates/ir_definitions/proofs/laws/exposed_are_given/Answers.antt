use Rattle.ir_definitions.proofs.Lines.{exposed-are-given}
use Rattle.ir_definitions.proofs.laws.exposed_are_given.Goals as goal

pub returns : goal.returns
returns c = exposed-are-given
