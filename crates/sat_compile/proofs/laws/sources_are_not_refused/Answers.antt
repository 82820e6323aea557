use Rattle.sat_compile.proofs.Accepted.{not_shown}
use Rattle.sat_compile.proofs.laws.sources_are_not_refused.Goals as goal

pub returns : goal.returns
returns c = λ text line source accepted shown. not_shown text line source accepted shown
