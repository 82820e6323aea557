use Rattle.rv_emulator.proofs.After.{run_goes_on}
use Rattle.rv_emulator.proofs.machine.Machine.run.Goals as goal

pub returns-clause-goes_on : goal.returns-clause-goes_on
returns-clause-goes_on c = run_goes_on _ _ _ _ _ c.run_on.ensures
