use Rattle.c_grammar.proofs.FrontsGoOn.{fronts_go_on}
use Rattle.c_grammar.proofs.laws.fronts_go_on.Goals as goal

pub returns : goal.returns
returns c = fronts_go_on
