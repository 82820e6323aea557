use Rattle.lawful_typed.proofs.Integers.{integers-fit}
use Rattle.lawful_typed.proofs.laws.integers_fit.Goals as goal

pub returns : goal.returns
returns c = integers-fit
