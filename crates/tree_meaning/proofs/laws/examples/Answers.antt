use Rattle.tree_meaning.proofs.Small as proved
use Rattle.tree_meaning.proofs.laws.examples.Goals as goal

pub returns : goal.returns
returns c = proved.examples
