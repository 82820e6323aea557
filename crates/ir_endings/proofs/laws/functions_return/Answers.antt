use Rattle.ir_endings.proofs.Functions.{functions-return}
use Rattle.ir_endings.proofs.laws.functions_return.Goals as goal

pub returns : goal.returns
returns c = λ typed ir lawful is. functions-return typed ir lawful is
