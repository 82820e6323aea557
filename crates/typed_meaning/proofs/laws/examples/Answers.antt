use Rattle.typed_meaning.proofs.SmallParts as proved
use Rattle.typed_meaning.proofs.laws.examples.Goals as goal

pub returns : goal.returns
returns c = proved.examples
