use Rattle.token_reader.proofs.Loops.{gives_refusal, braced_unread, braced_unended, braced_unclosed, braced_closed}
use Rattle.token_reader.proofs.lists.braced.Goals as goal

pub returns-in_err-item : goal.returns-in_err-item
returns-in_err-item g c = λ p h.
    gives_refusal c.from_residual.result c.in_err-item.field-0.0 _ _ c.from_residual.ensures.1 (braced_unread p c.args.reader.now c.in_err-item.field-0.0 (h _ _ _ c.in_err-item.ensures))

pub returns-in_err-found : goal.returns-in_err-found
returns-in_err-found g c = λ p h.
    gives_refusal c.from_residual-in_err-found.result c.in_err-found.field-0.0 _ _ c.from_residual-in_err-found.ensures.1
    (braced_unended p c.args.reader.now c.in_ok-item.field-0 c.item.new.arg2 c.in_err-found.field-0.0 (h _ _ _ c.in_ok-item.ensures) (rw (c.in_ok-push.ensures.ok, c.new-found.ensures) at (c.in_err-found.ensures p h)))

pub returns-in_err-take : goal.returns-in_err-take
returns-in_err-take g c = λ p h.
    gives_refusal c.from_residual-in_err-take.result c.in_err-take.field-0.0 _ _ c.from_residual-in_err-take.ensures.1
    (braced_unclosed p c.args.reader.now c.in_ok-item.field-0 c.item.new.arg2 c.in_ok-found.found c.more_braced.new.reader c.in_err-take.field-0.0 (h _ _ _ c.in_ok-item.ensures)
    (rw (c.in_ok-push.ensures.ok, c.new-found.ensures) at (c.in_ok-found.ensures p h)) c.in_err-take.ensures)

pub returns : goal.returns
returns g c = λ p h.
    braced_closed p c.args.reader.now c.in_ok-item.field-0 c.item.new.arg2 c.in_ok-found.found c.more_braced.new.reader _ c.take.new.self (h _ _ _ c.in_ok-item.ensures)
    (rw (c.in_ok-push.ensures.ok, c.new-found.ensures) at (c.in_ok-found.ensures p h)) c.in_ok-take.ensures
