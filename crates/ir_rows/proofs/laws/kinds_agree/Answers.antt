use Rattle.ir_rows.proofs.Sites.{kinds-agree}
use Rattle.ir_rows.proofs.laws.kinds_agree.Goals as goal

pub returns : goal.returns
returns c = λ typed ir lawful is. kinds-agree typed ir lawful is
