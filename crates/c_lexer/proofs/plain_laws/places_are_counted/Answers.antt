use Rattle.c_lexer.proofs.Places.{lines_are_counted, columns_are_counted}
use Rattle.c_lexer.proofs.plain_laws.places_are_counted.Goals as goal

pub returns-clause-lines : goal.returns-clause-lines
returns-clause-lines c = lines_are_counted

pub returns-clause-columns : goal.returns-clause-columns
returns-clause-columns c = columns_are_counted
