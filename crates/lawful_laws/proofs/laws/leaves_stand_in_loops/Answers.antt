use Rattle.lawful_laws.proofs.Leaving.{leaves-in-loops}
use Rattle.lawful_laws.proofs.laws.leaves_stand_in_loops.Goals as goal

pub returns : goal.returns
returns c = leaves-in-loops
