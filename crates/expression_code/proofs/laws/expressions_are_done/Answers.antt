use Rattle.expression_code.proofs.Expressions.{expression_does}
use Rattle.expression_code.proofs.laws.expressions_are_done.Goals as goal

pub returns : goal.returns
returns c = λ code turns l here called e k lag values laid scalars. expression_does code turns l laid here called scalars e k lag values
