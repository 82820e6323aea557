use Rattle.lawful_names.proofs.Few.{functions-few}
use Rattle.lawful_names.proofs.laws.functions_are_few.Goals as goal

pub returns : goal.returns
returns c = functions-few
