use Rattle.register_allocation.proofs.Small as proved
use Rattle.register_allocation.proofs.laws.examples.Goals as goal

pub returns : goal.returns
returns c = proved.examples
