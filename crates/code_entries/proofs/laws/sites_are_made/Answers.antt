use Rattle.code_entries.proofs.Sites.{sites_are_made}
use Rattle.code_entries.proofs.laws.sites_are_made.Goals as goal

pub returns : goal.returns
returns c = sites_are_made
