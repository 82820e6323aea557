use Rattle.std.proofs.Common.{◌≡◌, true, false, sym, ◌∙◌}
use Rattle.c_grammar.specs.declared.symbol.Symbol.TheVariants as symbol
use Rattle.right_reading.specs.Lists.{after, is_comma, many}
use Rattle.right_reading.specs.Stream.{ahead}
use Rattle.token_reader.proofs.Loops.{gives_refusal, rest_passed, rest_kept, turned, failed, stopped, ended, many_on, many_over, many_none, comma_passed}
use Rattle.token_reader.proofs.lists.more_listed.Goals as goal

pub returns-in_err-item : goal.returns-in_err-item
returns-in_err-item g c = λ p h.
    let on : is_comma (ahead c.loop-turn.reader) ≡ true = sym c.pass_if.ensures.value ∙ c.if-not-pass_if.false in
    let passed = comma_passed p c.loop-turn.reader c.pass_if.new.self on (rest_passed c.pass_if.result c.loop-turn.reader c.pass_if.new.self c.pass_if.ensures.rest c.if-not-pass_if.false) in
    gives_refusal c.from_residual.result c.in_err-item.field-0.0 _ _ c.from_residual.ensures.1
    (failed (many is_comma (after symbol.Comma p)) (after symbol.Comma p) _ _ c.loop-turn._turn c.loop-turn.found c.loop-turn.reader (c.loop-turn.invariant p h) c.loop-turn-test.true
    (many_on is_comma (after symbol.Comma p) c.loop-turn.found c.loop-turn.reader on) c.in_err-item.field-0.0 (rw passed (h _ _ _ c.in_err-item.ensures)))

pub loop-turn-preserved : goal.loop-turn-preserved
loop-turn-preserved g c = λ p h.
    let on : is_comma (ahead c.loop-turn.reader) ≡ true = sym c.pass_if.ensures.value ∙ c.if-not-pass_if.false in
    let passed = comma_passed p c.loop-turn.reader c.pass_if.new.self on (rest_passed c.pass_if.result c.loop-turn.reader c.pass_if.new.self c.pass_if.ensures.rest c.if-not-pass_if.false) in
    rw c.in_ok-push.ensures.ok
    (turned (many is_comma (after symbol.Comma p)) (after symbol.Comma p) _ _ c.loop-turn._turn c.loop-turn.found c.loop-turn.reader (c.loop-turn.invariant p h) c.loop-turn-test.true
    (many_on is_comma (after symbol.Comma p) c.loop-turn.found c.loop-turn.reader on) _ _ (passed ∙ h _ _ _ c.in_ok-item.ensures))

pub returns-then-not-pass_if : goal.returns-then-not-pass_if
returns-then-not-pass_if g c = λ p h.
    let over : is_comma (ahead c.loop-turn.reader) ≡ false = sym c.pass_if.ensures.value ∙ c.if-not-pass_if.true in
    rw (rest_kept c.pass_if.result c.loop-turn.reader c.pass_if.new.self c.pass_if.ensures.rest c.if-not-pass_if.true)
    (stopped (many is_comma (after symbol.Comma p)) (after symbol.Comma p) _ _ c.loop-turn._turn c.loop-turn.found c.loop-turn.reader (c.loop-turn.invariant p h) c.loop-turn.reader
    (many_over is_comma (after symbol.Comma p) c.loop-turn.found c.loop-turn.reader over) c.loop-turn-test.true)

pub returns : goal.returns
returns g c = λ p h.
    ended (many is_comma (after symbol.Comma p)) (after symbol.Comma p) _ _ c.loop-turn._turn c.loop-turn.found c.loop-turn.reader (c.loop-turn.invariant p h) c.loop-turn-test.false (many_none is_comma (after symbol.Comma p) c.loop-turn.found c.loop-turn.reader)
