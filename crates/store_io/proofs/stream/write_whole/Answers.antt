-- What is written so far, and the piece of this turn.
use Rattle.store_io.proofs.Turns.{wrote-more, wrote-part, keeps_itself, at_error}
use Rattle.store_io.proofs.stream.write_whole.Goals as goal

pub returns-then-is_empty-clause-err : goal.returns-then-is_empty-clause-err
returns-then-is_empty-clause-err g c = at_error c.flush.result (wrote-part _ _ _ _ _ c.loop.invariant c.flush.ensures.bytes)

pub returns-in_err-count-clause-err : goal.returns-in_err-count-clause-err
returns-in_err-count-clause-err g c = at_error c.from_residual.result (wrote-part _ _ _ _ _ c.loop.invariant c.in_err-count.ensures.bytes)

pub loop-preserved : goal.loop-preserved
loop-preserved g c = wrote-more _ _ _ _ _ _ c.loop.invariant c.in_ok-count.ensures.bytes

pub returns-clause-err : goal.returns-clause-err
returns-clause-err g c = wrote-part _ _ _ _ _ c.loop.invariant (keeps_itself _)
