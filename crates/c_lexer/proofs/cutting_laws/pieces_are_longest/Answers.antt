use Rattle.c_lexer.proofs.Pieces.{pieces_are_longest}
use Rattle.c_lexer.proofs.cutting_laws.pieces_are_longest.Goals as goal

pub returns : goal.returns
returns c = pieces_are_longest
