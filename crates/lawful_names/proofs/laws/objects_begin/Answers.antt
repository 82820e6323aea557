use Rattle.lawful_names.proofs.Begins.{begins-fit}
use Rattle.lawful_names.proofs.Shapes.{stands-spelled}
use Rattle.lawful_names.proofs.laws.objects_begin.Goals as goal

pub returns : goal.returns
returns c = λ program typed spelled is. stands-spelled program typed spelled is _ (begins-fit typed program.items)
