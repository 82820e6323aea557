use Rattle.std.proofs.Common.{arith}
use Rattle.source_costs.proofs.Rooms.{tokens_cover}
use Rattle.tree_costs.proofs.Sums.{costs_no_more}
use Rattle.tree_costs.proofs.laws.tokens_cover_trees.Goals as goal

pub returns : goal.returns
returns c = λ program tokens typed ir spelled tied is. omega (arith, costs_no_more program typed ir tied is, tokens_cover program tokens spelled)
