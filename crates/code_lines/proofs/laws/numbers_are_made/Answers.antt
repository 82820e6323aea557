use Rattle.code_lines.proofs.Pieces.{numbers_are_made}
use Rattle.code_lines.proofs.laws.numbers_are_made.Goals as goal

pub returns : goal.returns
returns c = numbers_are_made
