use Rattle.rv_encode.proofs.Encodings.{encoded_decodes}
use Rattle.rv_encode.proofs.laws.encoded_decodes.Goals as goal

pub returns : goal.returns
returns c = encoded_decodes
