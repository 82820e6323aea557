use Rattle.std.proofs.Common.{arith}
use Rattle.source_runs.proofs.Writing.{written_nowhere}
use Rattle.source_runs.proofs.state.RunState.write.Goals as goal

pub returns-else-at-elements_of : goal.returns-else-at-elements_of
returns-else-at-elements_of c = written_nowhere c.args.width c.args.at c.args.value c.args.self.now (omega arith)
