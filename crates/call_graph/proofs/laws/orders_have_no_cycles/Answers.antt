use Rattle.call_graph.proofs.Acyclic.{orders-have-no-cycles}
use Rattle.call_graph.proofs.laws.orders_have_no_cycles.Goals as goal

pub returns : goal.returns
returns c = orders-have-no-cycles
