use Rattle.c_lexer.proofs.Longest.{fronts_are_longest}
use Rattle.c_lexer.proofs.cutting_laws.fronts_are_longest.Goals as goal

pub returns : goal.returns
returns c = fronts_are_longest
