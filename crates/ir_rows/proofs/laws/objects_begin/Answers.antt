use Rattle.ir_rows.proofs.Objects.{objects-begin}
use Rattle.ir_rows.proofs.laws.objects_begin.Goals as goal

pub returns : goal.returns
returns c = λ typed ir lawful is. objects-begin typed ir lawful is
