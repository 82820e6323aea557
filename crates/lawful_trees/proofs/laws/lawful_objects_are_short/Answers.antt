use Rattle.lawful_trees.proofs.Short.{are-short}
use Rattle.lawful_trees.proofs.laws.lawful_objects_are_short.Goals as goal

pub returns : goal.returns
returns c = are-short
