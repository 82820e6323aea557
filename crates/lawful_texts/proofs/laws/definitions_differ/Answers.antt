use Rattle.lawful_texts.proofs.OwnDefinitions.{definitions-differ}
use Rattle.lawful_texts.proofs.laws.definitions_differ.Goals as goal

pub returns : goal.returns
returns c = definitions-differ
