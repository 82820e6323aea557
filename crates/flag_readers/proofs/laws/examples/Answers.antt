use Rattle.flag_readers.proofs.Small as proved
use Rattle.flag_readers.proofs.laws.examples.Goals as goal

pub returns : goal.returns
returns c = proved.examples
