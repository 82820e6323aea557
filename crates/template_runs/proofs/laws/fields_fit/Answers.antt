use Rattle.template_runs.proofs.Fits.{fields_fit}
use Rattle.template_runs.proofs.laws.fields_fit.Goals as goal

pub returns : goal.returns
returns c = fields_fit
