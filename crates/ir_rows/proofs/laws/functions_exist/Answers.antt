use Rattle.ir_rows.proofs.Calls.{functions-exist}
use Rattle.ir_rows.proofs.laws.functions_exist.Goals as goal

pub returns : goal.returns
returns c = λ typed ir lawful is. functions-exist typed ir lawful is
