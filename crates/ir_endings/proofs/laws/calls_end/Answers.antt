use Rattle.ir_endings.proofs.Calling.{calls-end}
use Rattle.ir_endings.proofs.laws.calls_end.Goals as goal

pub returns : goal.returns
returns c = λ typed ir lawful is. calls-end typed ir lawful is
