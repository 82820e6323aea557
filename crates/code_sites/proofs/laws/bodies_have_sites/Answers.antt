use Rattle.code_sites.proofs.Numbered.{bodies-have-sites}
use Rattle.code_sites.proofs.laws.bodies_have_sites.Goals as goal

pub returns : goal.returns
returns c = bodies-have-sites
