use Rattle.code_runs.proofs.Alike.{are_alike}
use Rattle.code_runs.proofs.laws.runs_are_alike.Goals as goal

pub returns : goal.returns
returns c = are_alike
