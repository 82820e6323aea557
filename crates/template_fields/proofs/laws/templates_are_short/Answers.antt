use Rattle.template_fields.proofs.Fields.{templates_are_short}
use Rattle.template_fields.proofs.laws.templates_are_short.Goals as goal

pub returns : goal.returns
returns c = templates_are_short
