use Rattle.rv_encode.proofs.Stores.{others_stay}
use Rattle.rv_encode.proofs.laws.others_stay.Goals as goal

pub returns : goal.returns
returns c = others_stay
