use Rattle.c_lexer.proofs.Operators.{operators_are_named}
use Rattle.c_lexer.proofs.cutting_laws.operators_are_named.Goals as goal

pub returns : goal.returns
returns c = operators_are_named
