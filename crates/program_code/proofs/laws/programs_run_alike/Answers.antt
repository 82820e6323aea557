use Rattle.program_code.proofs.Programs.{programs_run_alike}
use Rattle.program_code.proofs.laws.programs_run_alike.Goals as goal

pub returns : goal.returns
returns c = programs_run_alike
