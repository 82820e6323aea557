use Rattle.c_lexer.proofs.Pieces.{pieces_make_the_text}
use Rattle.c_lexer.proofs.cutting_laws.pieces_make_the_text.Goals as goal

pub returns : goal.returns
returns c = pieces_make_the_text
