use Rattle.statement_code.proofs.Statements.{statement_done}
use Rattle.statement_code.proofs.laws.statements_are_done.Goals as goal

pub returns : goal.returns
returns c = λ code l here called near has_result tree k lag ways targets laid scalars is. (statement_done code l laid here near has_result called scalars tree is).does k lag ways targets
