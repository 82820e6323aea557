use Rattle.std.proofs.Common.{◌≡◌, true, false, codes, drop, nat_eq, sym, ◌∙◌}
use Rattle.std.specs.List.{starts_with}
use Rattle.std.proofs.lemmas.List.{take_rest}
use Rattle.c_lexer.proofs.Closings.{closing_found, closing_step}
use Rattle.c_lexer.proofs.lexeme.closing_len.Goals as goal

pub returns-then-starts_with-clause-value : goal.returns-then-starts_with-clause-value
returns-then-starts_with-clause-value c =
    let found : starts_with nat_eq (drop c.loop-i.i c.args.text.now) (codes "*/") ≡ true = rw take_rest at (sym c.starts_with.ensures.value ∙ c.if-starts_with.true) in
    sym (c.loop-i.invariant ∙ closing_found c.args.text.now c.loop-i.i c.loop-i-test.true found)

pub loop-i-preserved : goal.loop-i-preserved
loop-i-preserved c =
    let other : starts_with nat_eq (drop c.loop-i.i c.args.text.now) (codes "*/") ≡ false = rw take_rest at (sym c.starts_with.ensures.value ∙ c.if-starts_with.false) in
    c.loop-i.invariant ∙ closing_step c.args.text.now c.loop-i.i c.loop-i-test.true other
