use Rattle.template_fields.proofs.Guards.{guards_that_cannot_stop}
use Rattle.template_fields.proofs.laws.guards_that_cannot_stop.Goals as goal

pub returns : goal.returns
returns c = guards_that_cannot_stop
