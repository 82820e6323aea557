use Rattle.operator_meaning.proofs.Names.{stands_at_place}
use Rattle.operator_meaning.proofs.laws.order_is_one.Goals as goal

pub returns : goal.returns
returns c = stands_at_place
