use Rattle.rv_encode.proofs.Decodings.{decoded_encodes}
use Rattle.rv_encode.proofs.laws.decoded_encodes.Goals as goal

pub returns : goal.returns
returns c = decoded_encodes
