use Rattle.c_lexer.proofs.DefinitionValues.{definition_is_read, definition_is_spelled}
use Rattle.c_lexer.proofs.laws.values_of_definitions.Goals as goal

pub returns : goal.returns
returns c = λ names parts v. (definition_is_spelled names parts v, definition_is_read names parts v)
