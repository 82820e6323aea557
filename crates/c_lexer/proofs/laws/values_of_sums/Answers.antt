use Rattle.c_lexer.proofs.SumsRead.{sum_is_read}
use Rattle.c_lexer.proofs.SumsSpelled.{sum_is_spelled}
use Rattle.c_lexer.proofs.laws.values_of_sums.Goals as goal

pub returns : goal.returns
returns c = λ names parts v. (sum_is_spelled names parts v, sum_is_read names parts v)
