use Rattle.tree_costs.proofs.Sums.{costs_no_more}
use Rattle.tree_costs.proofs.laws.whole_trees_cost_no_more.Goals as goal

pub returns : goal.returns
returns c = costs_no_more
