use Rattle.lawful_names.proofs.Reaches.{places-fit}
use Rattle.lawful_names.proofs.Shapes.{stands-spelled}
use Rattle.lawful_names.proofs.laws.places_fit.Goals as goal

pub returns : goal.returns
returns c = λ program typed spelled is. stands-spelled program typed spelled is _ (places-fit typed program.items)
