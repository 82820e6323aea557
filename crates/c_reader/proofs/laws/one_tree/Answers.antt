use Rattle.c_reader.proofs.ReadWhole.{one_tree}
use Rattle.c_reader.proofs.laws.one_tree.Goals as goal

pub returns : goal.returns
returns c = one_tree
