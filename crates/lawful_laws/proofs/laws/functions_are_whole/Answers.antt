use Rattle.lawful_laws.proofs.Whole.{functions-whole}
use Rattle.lawful_laws.proofs.laws.functions_are_whole.Goals as goal

pub returns : goal.returns
returns c = functions-whole
