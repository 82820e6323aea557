use Rattle.std.proofs.Common.{◌≡◌, true, false, ap, sym, ◌∙◌}
use Rattle.right_reading.specs.Lists.{many}
use Rattle.right_reading.specs.Stream.{ahead}
use Rattle.token_reader.proofs.Loops.{gives_refusal, turned, failed, stopped, ended, many_on, many_over, many_none}
use Rattle.token_reader.proofs.lists.many.Goals as goal

pub returns-in_err-item : goal.returns-in_err-item
returns-in_err-item g c = λ q p t h.
    let on : q (ahead c.loop-turn.reader) ≡ true = ap q (sym c.ahead.ensures) ∙ sym (t _ _ c.goes.ensures) ∙ c.if-not-goes.false in
    gives_refusal c.from_residual.result c.in_err-item.field-0.0 _ _ c.from_residual.ensures.1
    (failed (many q p) p _ _ c.loop-turn._turn c.loop-turn.found c.loop-turn.reader (c.loop-turn.invariant q p t h) c.loop-turn-test.true (many_on q p c.loop-turn.found c.loop-turn.reader on) c.in_err-item.field-0.0 (h _ _ _ c.in_err-item.ensures))

pub loop-turn-preserved : goal.loop-turn-preserved
loop-turn-preserved g c = λ q p t h.
    let on : q (ahead c.loop-turn.reader) ≡ true = ap q (sym c.ahead.ensures) ∙ sym (t _ _ c.goes.ensures) ∙ c.if-not-goes.false in
    rw c.in_ok-push.ensures.ok
    (turned (many q p) p _ _ c.loop-turn._turn c.loop-turn.found c.loop-turn.reader (c.loop-turn.invariant q p t h) c.loop-turn-test.true (many_on q p c.loop-turn.found c.loop-turn.reader on) _ _ (h _ _ _ c.in_ok-item.ensures))

pub returns-then-not-goes : goal.returns-then-not-goes
returns-then-not-goes g c = λ q p t h.
    let over : q (ahead c.loop-turn.reader) ≡ false = ap q (sym c.ahead.ensures) ∙ sym (t _ _ c.goes.ensures) ∙ c.if-not-goes.true in
    stopped (many q p) p _ _ c.loop-turn._turn c.loop-turn.found c.loop-turn.reader (c.loop-turn.invariant q p t h) c.loop-turn.reader (many_over q p c.loop-turn.found c.loop-turn.reader over) c.loop-turn-test.true

pub returns : goal.returns
returns g c = λ q p t h.
    ended (many q p) p _ _ c.loop-turn._turn c.loop-turn.found c.loop-turn.reader (c.loop-turn.invariant q p t h) c.loop-turn-test.false (many_none q p c.loop-turn.found c.loop-turn.reader)
