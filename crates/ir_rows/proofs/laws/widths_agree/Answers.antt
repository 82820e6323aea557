use Rattle.ir_rows.proofs.Objects.{widths-agree}
use Rattle.ir_rows.proofs.laws.widths_agree.Goals as goal

pub returns : goal.returns
returns c = λ typed ir lawful is. widths-agree typed ir lawful is
