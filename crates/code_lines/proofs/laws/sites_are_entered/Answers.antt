use Rattle.code_lines.proofs.Entering.{leads_site}
use Rattle.code_lines.proofs.laws.sites_are_entered.Goals as goal

pub returns : goal.returns
returns c = leads_site
