use Rattle.rv_encode.proofs.Runs.{moment_after_add}
use Rattle.rv_encode.proofs.laws.runs_compose.Goals as goal

pub returns : goal.returns
returns c = moment_after_add
