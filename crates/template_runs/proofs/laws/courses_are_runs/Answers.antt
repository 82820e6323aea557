use Rattle.template_runs.proofs.Follows.{courses_are_runs}
use Rattle.template_runs.proofs.laws.courses_are_runs.Goals as goal

pub returns : goal.returns
returns c = courses_are_runs
