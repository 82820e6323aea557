use Rattle.sat_compile.proofs.Accepted.{one_source}
use Rattle.sat_compile.proofs.laws.one_source.Goals as goal

pub returns : goal.returns
returns c = one_source
