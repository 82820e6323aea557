use Rattle.c_lexer.proofs.KindsApart.{kinds_are_apart}
use Rattle.c_lexer.proofs.cutting_laws.kinds_are_apart.Goals as goal

pub returns : goal.returns
returns c = kinds_are_apart
