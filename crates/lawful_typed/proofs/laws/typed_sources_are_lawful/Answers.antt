use Rattle.lawful_typed.proofs.Lawful.{sources-lawful}
use Rattle.lawful_typed.proofs.laws.typed_sources_are_lawful.Goals as goal

pub returns : goal.returns
returns c = sources-lawful
