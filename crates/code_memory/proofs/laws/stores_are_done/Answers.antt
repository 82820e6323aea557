use Rattle.code_memory.proofs.Accesses.{stores_are_done}
use Rattle.code_memory.proofs.laws.stores_are_done.Goals as goal

pub returns : goal.returns
returns c = stores_are_done
