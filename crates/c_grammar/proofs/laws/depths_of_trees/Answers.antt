use Rattle.c_grammar.proofs.ProgramDepths.{depths_of_trees}
use Rattle.c_grammar.proofs.laws.depths_of_trees.Goals as goal

pub returns : goal.returns
returns c = depths_of_trees
