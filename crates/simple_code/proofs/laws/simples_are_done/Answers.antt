use Rattle.simple_code.proofs.Simples.{simple_does}
use Rattle.simple_code.proofs.laws.simples_are_done.Goals as goal

pub returns : goal.returns
returns c = λ code turns l here called part k lag laid scalars. simple_does code turns l laid here called scalars part k lag
