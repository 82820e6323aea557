use Rattle.ir_rows.proofs.Calls.{values-are-given}
use Rattle.ir_rows.proofs.laws.values_are_given.Goals as goal

pub returns : goal.returns
returns c = λ typed ir lawful is. values-are-given typed ir lawful is
