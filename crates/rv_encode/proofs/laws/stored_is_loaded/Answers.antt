use Rattle.rv_encode.proofs.Stores.{stored_is_loaded}
use Rattle.rv_encode.proofs.laws.stored_is_loaded.Goals as goal

pub returns : goal.returns
returns c = stored_is_loaded
