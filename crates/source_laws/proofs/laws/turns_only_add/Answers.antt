use Rattle.source_laws.proofs.Sources as proved
use Rattle.source_laws.proofs.laws.turns_only_add.Goals as goal

pub returns : goal.returns
returns c = proved.turns_only_add
