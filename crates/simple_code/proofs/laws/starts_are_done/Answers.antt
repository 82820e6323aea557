use Rattle.simple_code.proofs.Starts.{start_does}
use Rattle.simple_code.proofs.laws.starts_are_done.Goals as goal

pub returns : goal.returns
returns c = λ code turns l here called object start k lag laid scalars. start_does code turns l laid here called scalars object start k lag
