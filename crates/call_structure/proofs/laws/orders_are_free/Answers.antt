use Rattle.call_structure.proofs.Reaching.{orders_are_free}
use Rattle.call_structure.proofs.laws.orders_are_free.Goals as goal

pub returns : goal.returns
returns c = orders_are_free
