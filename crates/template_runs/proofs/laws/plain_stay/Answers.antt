use Rattle.template_runs.proofs.Plain.{plain_stay}
use Rattle.template_runs.proofs.laws.plain_stay.Goals as goal

pub returns : goal.returns
returns c = plain_stay
