use Rattle.lawful_sites.proofs.Numbered.{are-numbered}
use Rattle.lawful_sites.proofs.laws.marks_are_numbered.Goals as goal

pub returns : goal.returns
returns c = are-numbered
