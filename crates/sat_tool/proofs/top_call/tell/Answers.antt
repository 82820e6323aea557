use Rattle.std.proofs.Common.{Err, ap, rules}
use Rattle.sat_tool.specs.Run as run
use Rattle.sat_tool.proofs.top_call.tell.Goals as goal

pub returns-in_default-clause-told : goal.returns-in_default-clause-told
returns-in_default-clause-told g c = rw c.status.ensures (run.silent (search rules))

pub returns-in-Ok-clause-told : goal.returns-in-Ok-clause-told
returns-in-Ok-clause-told g c = rw c.status-in-Ok.ensures (run.put _ c.in-Some.ensures c.in-Ok.ensures.ok)

pub returns-in-Err-Failed-clause-told : goal.returns-in-Err-Failed-clause-told
returns-in-Err-Failed-clause-told g c =
    let e = c.in-Err-Failed.ensures in
    let is = ap Err c.in-Err-Failed.field-0-is in
    run.failed _ c.in-Some.ensures (e.failed is) (e.part is)

pub returns-in-Err-Memory-clause-told : goal.returns-in-Err-Memory-clause-told
returns-in-Err-Memory-clause-told g c =
    rw c.status-in-Err-Memory.ensures (run.wants_memory _ c.in-Some.ensures (c.in-Err-Memory.ensures.memory (ap Err c.in-Err-Memory.field-0-is)))
