use Rattle.code_memory.proofs.Accesses.{loads_are_done}
use Rattle.code_memory.proofs.laws.loads_are_done.Goals as goal

pub returns : goal.returns
returns c = loads_are_done
