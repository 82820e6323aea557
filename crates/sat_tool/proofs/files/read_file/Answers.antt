use Rattle.std.proofs.Common.{Err, ap}
use Rattle.std.proofs.lemmas.Result.{err_from_is_err_and}
use Rattle.sat_tool.specs.Run as run
use Rattle.sat_tool.proofs.files.read_file.Goals as goal

pub returns-in_err-missing-in-Err-Missing-clause-unread : goal.returns-in_err-missing-in-Err-Missing-clause-unread
returns-in_err-missing-in-Err-Missing-clause-unread g c =
    let p = err_from_is_err_and c.from_residual.result c.from_residual.ensures.1 in rw (p.1, p.2) run.wants_memory

pub returns-in_err-cannot_read-in-Err-Failed-clause-unread : goal.returns-in_err-cannot_read-in-Err-Failed-clause-unread
returns-in_err-cannot_read-in-Err-Failed-clause-unread g c =
    let p = err_from_is_err_and c.from_residual-in_err-cannot_read-in-Err-Failed.result c.from_residual-in_err-cannot_read-in-Err-Failed.ensures.1 in
    rw (p.1, p.2) run.wants_memory

pub returns-in_ok-missing-in-Err-Missing-clause-unread : goal.returns-in_ok-missing-in-Err-Missing-clause-unread
returns-in_ok-missing-in-Err-Missing-clause-unread g c =
    rw c.in_ok-missing-in-Err-Missing.ensures (run.missing (c.in-Err-Missing.ensures.missing (ap Err c.in-Err-Missing.field-0-is)))

pub returns-in_ok-cannot_read-in-Err-Failed-clause-unread : goal.returns-in_ok-cannot_read-in-Err-Failed-clause-unread
returns-in_ok-cannot_read-in-Err-Failed-clause-unread g c =
    rw c.in_ok-cannot_read-in-Err-Failed.ensures (run.failed (c.in-Err-Failed.ensures.failed (ap Err c.in-Err-Failed.field-0-is)))

pub returns-in-Err-Memory-clause-unread : goal.returns-in-Err-Memory-clause-unread
returns-in-Err-Memory-clause-unread g c = run.wants_memory
