use Rattle.image_runs.proofs.Fronts.{images_fit}
use Rattle.image_runs.proofs.laws.images_fit.Goals as goal

pub returns : goal.returns
returns c = images_fit
