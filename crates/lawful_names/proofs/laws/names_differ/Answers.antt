use Rattle.lawful_names.proofs.OwnNames.{names-differ}
use Rattle.lawful_names.proofs.laws.names_differ.Goals as goal

pub returns : goal.returns
returns c = names-differ
