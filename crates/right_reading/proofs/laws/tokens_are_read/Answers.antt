use Rattle.right_reading.proofs.OneToken.Tokens.{take_right, name_right, number_right}
use Rattle.right_reading.proofs.laws.tokens_are_read.Goals as goal

pub returns : goal.returns
returns c n = record { taken = λ s other. take_right s other n; name = name_right n; number = number_right n }
