use Rattle.c_lexer.proofs.Pieces.{pieces_follow}
use Rattle.c_lexer.proofs.cutting_laws.pieces_follow.Goals as goal

pub returns : goal.returns
returns c = pieces_follow
