use Rattle.code_counts.proofs.Statements.{comparisons_are_few}
use Rattle.code_counts.proofs.laws.comparisons_are_few.Goals as goal

pub returns : goal.returns
returns c = comparisons_are_few
