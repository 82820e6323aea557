use Rattle.ir_rows.proofs.Objects.{const-is-kept}
use Rattle.ir_rows.proofs.laws.const_is_kept.Goals as goal

pub returns : goal.returns
returns c = λ typed ir lawful is. const-is-kept typed ir lawful is
