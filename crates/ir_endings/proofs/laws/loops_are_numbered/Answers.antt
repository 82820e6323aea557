use Rattle.ir_endings.proofs.Functions.{loops-numbered}
use Rattle.ir_endings.proofs.laws.loops_are_numbered.Goals as goal

pub returns : goal.returns
returns c = λ typed ir lawful is. loops-numbered typed ir lawful is
