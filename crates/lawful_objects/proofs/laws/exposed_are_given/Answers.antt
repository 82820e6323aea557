use Rattle.lawful_objects.proofs.Exposed.{exposed-given}
use Rattle.lawful_objects.proofs.laws.exposed_are_given.Goals as goal

pub returns : goal.returns
returns c = exposed-given
