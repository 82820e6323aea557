use Rattle.c_lexer.proofs.Obeyed.{directives_are_obeyed}
use Rattle.c_lexer.proofs.laws.directives_are_obeyed.Goals as goal

pub returns : goal.returns
returns c = directives_are_obeyed
