use Rattle.fitting_calls.proofs.Statements.{bodies_keep_fitting}
use Rattle.fitting_calls.proofs.laws.bodies_keep_fitting.Goals as goal

pub returns : goal.returns
returns c = bodies_keep_fitting
