use Rattle.lawful_sites.proofs.SiteKinds.{kinds-agree}
use Rattle.lawful_sites.proofs.laws.kinds_agree.Goals as goal

pub returns : goal.returns
returns c = kinds-agree
