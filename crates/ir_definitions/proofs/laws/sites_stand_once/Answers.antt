use Rattle.ir_definitions.proofs.Lines.{sites-stand-once}
use Rattle.ir_definitions.proofs.laws.sites_stand_once.Goals as goal

pub returns : goal.returns
returns c = sites-stand-once
