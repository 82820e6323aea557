use Rattle.code_entries.proofs.Statements.{codes_are_made}
use Rattle.code_entries.proofs.laws.codes_are_made.Goals as goal

pub returns : goal.returns
returns c = codes_are_made
