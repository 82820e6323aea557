use Rattle.lawful_sites.proofs.Numbered.{stand-once}
use Rattle.lawful_sites.proofs.laws.sites_stand_once.Goals as goal

pub returns : goal.returns
returns c = stand-once
