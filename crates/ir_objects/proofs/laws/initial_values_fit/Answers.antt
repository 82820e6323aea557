use Rattle.ir_objects.proofs.Lines.{initial-values-fit}
use Rattle.ir_objects.proofs.laws.initial_values_fit.Goals as goal

pub returns : goal.returns
returns c = initial-values-fit
