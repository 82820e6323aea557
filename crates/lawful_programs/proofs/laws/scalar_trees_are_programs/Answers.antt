use Rattle.lawful_programs.proofs.Wholes.{scalar_trees_are_programs}
use Rattle.lawful_programs.proofs.laws.scalar_trees_are_programs.Goals as goal

pub returns : goal.returns
returns c = scalar_trees_are_programs
