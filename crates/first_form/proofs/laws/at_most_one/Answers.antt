use Rattle.first_form.proofs.Statements.{at_most_one}
use Rattle.first_form.proofs.laws.at_most_one.Goals as goal

pub returns : goal.returns
returns c = at_most_one
