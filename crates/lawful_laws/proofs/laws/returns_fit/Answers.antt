use Rattle.lawful_laws.proofs.ReturnsFit.{returns-fit}
use Rattle.lawful_laws.proofs.laws.returns_fit.Goals as goal

pub returns : goal.returns
returns c = returns-fit
