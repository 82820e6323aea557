use Rattle.c_lexer.proofs.LinePieces.{lines_are_longest}
use Rattle.c_lexer.proofs.cutting_laws.lines_are_longest.Goals as goal

pub returns : goal.returns
returns c = lines_are_longest
