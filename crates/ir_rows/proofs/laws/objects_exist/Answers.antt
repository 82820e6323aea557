use Rattle.ir_rows.proofs.Objects.{objects-exist}
use Rattle.ir_rows.proofs.laws.objects_exist.Goals as goal

pub returns : goal.returns
returns c = λ typed ir lawful is. objects-exist typed ir lawful is
