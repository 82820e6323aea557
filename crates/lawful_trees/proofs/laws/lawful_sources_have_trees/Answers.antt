use Rattle.lawful_trees.proofs.Functions.{has-tree}
use Rattle.lawful_trees.proofs.laws.lawful_sources_have_trees.Goals as goal

pub returns : goal.returns
returns c = has-tree
