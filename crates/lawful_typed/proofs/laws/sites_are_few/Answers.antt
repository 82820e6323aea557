use Rattle.lawful_typed.proofs.Few.{sites-few}
use Rattle.lawful_typed.proofs.laws.sites_are_few.Goals as goal

pub returns : goal.returns
returns c = sites-few
