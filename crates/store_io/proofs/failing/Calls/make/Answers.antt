-- The count of failed calls over this one.
use Rattle.std.proofs.Common.{arith}
use Rattle.store_io.proofs.Counted.{failed_before-later, rose-listed}
use Rattle.store_io.proofs.failing.Calls.make.Goals as goal

pub returns-clause-later : goal.returns-clause-later
returns-clause-later c = failed_before-later c.args.self.now.failing c.args.self.now.next c.in_ok-next.next (omega (arith, c.in_ok-next.ensures.1))

pub returns-clause-rose : goal.returns-clause-rose
returns-clause-rose c = rose-listed _ _ _ _ _ c.taken_at.ensures c.as_slice.ensures c.in_ok-next.ensures.1
