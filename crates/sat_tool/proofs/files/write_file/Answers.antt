use Rattle.std.proofs.Common.{Err, ap, refl}
use Rattle.std.proofs.lemmas.Result.{err_from_is_err_and}
use Rattle.sat_tool.specs.Run as run
use Rattle.sat_tool.proofs.files.write_file.Goals as goal

pub returns-in_err-failure-clause-writes : goal.returns-in_err-failure-clause-writes
returns-in_err-failure-clause-writes g c =
    let p = err_from_is_err_and c.from_residual.result c.from_residual.ensures.1 in rw (p.1, p.2) (run.wants_memory refl)

pub returns-in-Ok-clause-writes : goal.returns-in-Ok-clause-writes
returns-in-Ok-clause-writes g c = run.written c.in-Ok.ensures.ok

pub returns-in-Err-Failed-clause-writes : goal.returns-in-Err-Failed-clause-writes
returns-in-Err-Failed-clause-writes g c =
    let e = c.in-Err-Failed.ensures in
    let is = ap Err c.in-Err-Failed.field-0-is in
    rw c.in_ok-failure.ensures (run.failed (e.failed is) (e.part is))

pub returns-clause-writes : goal.returns-clause-writes
returns-clause-writes g c = run.wants_memory (c.in-Err-Memory.ensures.memory (ap Err c.in-Err-Memory.field-0-is))
