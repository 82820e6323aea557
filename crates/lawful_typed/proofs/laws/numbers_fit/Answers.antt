use Rattle.lawful_typed.proofs.Numbers.{numbers-of-texts}
use Rattle.lawful_typed.proofs.laws.numbers_fit.Goals as goal

pub returns : goal.returns
returns c = numbers-of-texts
