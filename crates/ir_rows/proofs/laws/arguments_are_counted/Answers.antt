use Rattle.ir_rows.proofs.Calls.{arguments-are-counted}
use Rattle.ir_rows.proofs.laws.arguments_are_counted.Goals as goal

pub returns : goal.returns
returns c = λ typed ir lawful is. arguments-are-counted typed ir lawful is
