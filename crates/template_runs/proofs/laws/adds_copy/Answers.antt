use Rattle.template_runs.proofs.Copies.{adds_copy}
use Rattle.template_runs.proofs.laws.adds_copy.Goals as goal

pub returns : goal.returns
returns c = adds_copy
