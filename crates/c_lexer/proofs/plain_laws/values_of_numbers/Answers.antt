use Rattle.c_lexer.proofs.NumberValues.{values_of_numbers}
use Rattle.c_lexer.proofs.plain_laws.values_of_numbers.Goals as goal

pub returns : goal.returns
returns c = values_of_numbers
