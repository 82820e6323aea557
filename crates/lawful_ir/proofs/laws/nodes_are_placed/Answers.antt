use Rattle.lawful_ir.proofs.Lines.{nodes-are-placed}
use Rattle.lawful_ir.proofs.laws.nodes_are_placed.Goals as goal

pub returns : goal.returns
returns c = nodes-are-placed
