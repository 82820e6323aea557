use Rattle.code_lines.proofs.Lines.{lines_run}
use Rattle.code_lines.proofs.laws.lines_run.Goals as goal

pub returns : goal.returns
returns c = lines_run
