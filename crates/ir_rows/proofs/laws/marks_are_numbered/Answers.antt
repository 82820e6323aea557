use Rattle.ir_rows.proofs.Sites.{marks-are-numbered}
use Rattle.ir_rows.proofs.laws.marks_are_numbered.Goals as goal

pub returns : goal.returns
returns c = λ typed ir lawful is. marks-are-numbered typed ir lawful is
