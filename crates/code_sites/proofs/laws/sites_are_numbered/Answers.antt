use Rattle.code_sites.proofs.Numbered.{sites-are-numbered}
use Rattle.code_sites.proofs.laws.sites_are_numbered.Goals as goal

pub returns : goal.returns
returns c = sites-are-numbered
