use Rattle.sat_compile.specs.Passing as passing
use Rattle.sat_compile.proofs.checking.faulty.Goals as goal

pub returns-in-Memory : goal.returns-in-Memory
returns-in-Memory c = passing.wants_memory c.in-Memory.is

pub returns-in_default : goal.returns-in_default
returns-in_default c = passing.faulty c.in_default.not-Memory
