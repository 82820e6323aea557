use Rattle.lawful_laws.proofs.Returning.{functions-return}
use Rattle.lawful_laws.proofs.laws.functions_return.Goals as goal

pub returns : goal.returns
returns c = functions-return
