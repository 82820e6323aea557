use Rattle.ir_rows.proofs.Objects.{places-fit}
use Rattle.ir_rows.proofs.laws.places_fit.Goals as goal

pub returns : goal.returns
returns c = λ typed ir lawful is. places-fit typed ir lawful is
