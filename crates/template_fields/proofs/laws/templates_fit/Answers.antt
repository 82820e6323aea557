use Rattle.template_fields.proofs.Fields.{templates_fit}
use Rattle.template_fields.proofs.laws.templates_fit.Goals as goal

pub returns : goal.returns
returns c = templates_fit
