use Rattle.sat_tool.specs.Run as run
use Rattle.sat_tool.proofs.top_call.outcome_of.Goals as goal

pub returns-in-Ok-None-clause-comes : goal.returns-in-Ok-None-clause-comes
returns-in-Ok-None-clause-comes g c = run.nowhere (rw c.in-Ok-None.field-0-is at c.in-Ok-None.ensures.none)

pub returns-in-Err-clause-comes : goal.returns-in-Err-clause-comes
returns-in-Err-clause-comes g c = run.wants_memory

pub returns-in-Ok-clause-comes : goal.returns-in-Ok-clause-comes
returns-in-Ok-clause-comes g c = run.along _ (rw c.in-Ok-Some.field-0-is at c.in-Ok-Some.ensures.found) c.in-Ok.ensures.course

pub returns-in-Err-serve-clause-comes : goal.returns-in-Err-serve-clause-comes
returns-in-Err-serve-clause-comes g c = run.along _ (rw c.in-Ok-Some.field-0-is at c.in-Ok-Some.ensures.found) c.in-Err-serve.ensures.course
