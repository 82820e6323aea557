use Rattle.call_structure.proofs.Reaching.{recursions_are}
use Rattle.call_structure.proofs.laws.recursions_are.Goals as goal

pub returns : goal.returns
returns c = recursions_are
