use Rattle.image_runs.proofs.Fronts.{fronts_are_refused_alike}
use Rattle.image_runs.proofs.laws.fronts_are_refused_alike.Goals as goal

pub returns : goal.returns
returns c = fronts_are_refused_alike
