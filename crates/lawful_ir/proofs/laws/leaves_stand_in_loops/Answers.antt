use Rattle.lawful_ir.proofs.Lines.{leaves-stand-in-loops}
use Rattle.lawful_ir.proofs.laws.leaves_stand_in_loops.Goals as goal

pub returns : goal.returns
returns c = leaves-stand-in-loops
