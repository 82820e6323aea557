use Rattle.ir_rows.proofs.Calls.{main-is-not-called}
use Rattle.ir_rows.proofs.laws.main_is_not_called.Goals as goal

pub returns : goal.returns
returns c = λ typed ir lawful is. main-is-not-called typed ir lawful is
