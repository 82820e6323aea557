use Rattle.code_lines.proofs.Pieces.{counts_are_added}
use Rattle.code_lines.proofs.laws.counts_are_added.Goals as goal

pub returns : goal.returns
returns c = counts_are_added
