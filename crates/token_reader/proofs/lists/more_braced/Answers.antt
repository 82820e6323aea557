use Rattle.std.proofs.Common.{◌≡◌, false, sym, ◌∙◌, ap}
use Rattle.c_grammar.specs.declared.symbol.Symbol.TheVariants as symbol
use Rattle.c_grammar.specs.Symbols.{same_symbol}
use Rattle.right_reading.specs.ReadDeclarations.{more_braced}
use Rattle.right_reading.specs.Stream.{ahead, rest}
use Rattle.token_reader.proofs.Loops.{gives_refusal, rest_passed, rest_kept, turned, failed, stopped, ended, braced_on, braced_last, braced_over, braced_none, after_comma, comma_ahead}
use Rattle.token_reader.proofs.lists.more_braced.Goals as goal
use Rattle.token_reader.proofs.lists.more_braced.Goals.{then-not-pass_if-via-then-not-pass_if, then-not-pass_if-via-else-not-pass_if+then-is}

pub returns-in_err-item : goal.returns-in_err-item
returns-in_err-item g c = λ p h.
    let comma = sym c.pass_if.ensures.value ∙ c.if-not-pass_if.false in
    let passed = rest_passed c.pass_if.result c.loop-turn.reader c.pass_if.new.self c.pass_if.ensures.rest c.if-not-pass_if.false in
    let stays : same_symbol (ahead (rest c.loop-turn.reader)) symbol.CloseBrace ≡ false = comma_ahead c.loop-turn.reader c.pass_if.new.self c.ahead.result c.is.result passed c.ahead.ensures c.is.ensures ∙ c.if-is.false in
    gives_refusal c.from_residual.result c.in_err-item.field-0.0 _ _ c.from_residual.ensures.1
    (failed (λ n. more_braced n p) (after_comma p) _ _ c.loop-turn._turn c.loop-turn.found c.loop-turn.reader (c.loop-turn.invariant p h) c.loop-turn-test.true (braced_on p c.loop-turn.found c.loop-turn.reader comma stays)
    c.in_err-item.field-0.0 (rw (← passed) (h _ _ _ c.in_err-item.ensures)))

pub loop-turn-preserved : goal.loop-turn-preserved
loop-turn-preserved g c = λ p h.
    let comma = sym c.pass_if.ensures.value ∙ c.if-not-pass_if.false in
    let passed = rest_passed c.pass_if.result c.loop-turn.reader c.pass_if.new.self c.pass_if.ensures.rest c.if-not-pass_if.false in
    let stays : same_symbol (ahead (rest c.loop-turn.reader)) symbol.CloseBrace ≡ false = comma_ahead c.loop-turn.reader c.pass_if.new.self c.ahead.result c.is.result passed c.ahead.ensures c.is.ensures ∙ c.if-is.false in
    rw c.in_ok-push.ensures.ok
    (turned (λ n. more_braced n p) (after_comma p) _ _ c.loop-turn._turn c.loop-turn.found c.loop-turn.reader (c.loop-turn.invariant p h) c.loop-turn-test.true (braced_on p c.loop-turn.found c.loop-turn.reader comma stays)
    _ _ (ap p (sym passed) ∙ h _ _ _ c.in_ok-item.ensures))

pub returns : goal.returns
returns g c = λ p h.
    ended (λ n. more_braced n p) (after_comma p) _ _ c.loop-turn._turn c.loop-turn.found c.loop-turn.reader (c.loop-turn.invariant p h) c.loop-turn-test.false (braced_none p c.loop-turn.found c.loop-turn.reader)

pub returns-then-not-pass_if : goal.returns-then-not-pass_if
returns-then-not-pass_if g c = λ p h.
    let i = c.loop-turn.reader in
    let stop = stopped (λ n. more_braced n p) (after_comma p) _ _ c.loop-turn._turn c.loop-turn.found i (c.loop-turn.invariant p h) c.pass_if.new.self in
    elim c.then-not-pass_if.branch [
      | then-not-pass_if-via-then-not-pass_if w ↦
          let kept : c.pass_if.new.self ≡ i = rest_kept c.pass_if.result i c.pass_if.new.self c.pass_if.ensures.rest w.if-not-pass_if.true in
          stop (rw kept (braced_over p c.loop-turn.found i (sym c.pass_if.ensures.value ∙ w.if-not-pass_if.true))) c.loop-turn-test.true
      | then-not-pass_if-via-else-not-pass_if+then-is w ↦
          let passed : c.pass_if.new.self ≡ rest i = rest_passed c.pass_if.result i c.pass_if.new.self c.pass_if.ensures.rest w.if-not-pass_if.false in
          let closes = comma_ahead i c.pass_if.new.self w.ahead.result w.is.result passed w.ahead.ensures w.is.ensures ∙ w.if-is.true in
          stop (rw passed (braced_last p c.loop-turn.found i (sym c.pass_if.ensures.value ∙ w.if-not-pass_if.false) closes)) c.loop-turn-test.true
    ]
