use Rattle.lawful_laws.proofs.Sites.{tokens-rise}
use Rattle.lawful_laws.proofs.laws.sites_are_in_order.Goals as goal

pub returns : goal.returns
returns c = λ program typed tied own. tokens-rise typed.sites tied.in_order own
