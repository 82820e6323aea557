use Rattle.lawful_names.proofs.Main.{has-main}
use Rattle.lawful_names.proofs.laws.has_main.Goals as goal

pub returns : goal.returns
returns c = has-main
