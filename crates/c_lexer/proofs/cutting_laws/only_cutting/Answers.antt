use Rattle.c_lexer.proofs.OnlyCutting.{only_cutting}
use Rattle.c_lexer.proofs.cutting_laws.only_cutting.Goals as goal

pub returns : goal.returns
returns c = only_cutting
