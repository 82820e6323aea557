use Rattle.lawful_ir.proofs.Lines.{sites-are-few}
use Rattle.lawful_ir.proofs.laws.sites_are_few.Goals as goal

pub returns : goal.returns
returns c = sites-are-few
