use Rattle.std.proofs.Common.{◌≡◌, ◌+◌, ◌-◌, ◌<◌, ◌/◌, length, arith, ap, ◌∙◌, List, ℕ}
use Rattle.std.proofs.lemmas.Grind.{get_or_default_zero}
use Rattle.tied_names.specs.Numbers.{number_in}
use Rattle.tied_names.proofs.InOrder.{number-is}
use Rattle.tied_names.proofs.tokens.Tokens.number_at.Goals as goal

pub loop-low-preserved-then-index-tok : goal.loop-low-preserved-then-index-tok
loop-low-preserved-then-index-tok c =
    let middle : ℕ = c.loop-low.low + (c.loop-low.high - c.loop-low.low) / 2 in
    let within : middle < length c.self.inside.tokens.items = omega (arith, c.loop-low-test.true, c.loop-low.invariant.high) in
    record {
      ends = omega (arith, c.loop-low-test.true);
      high = c.loop-low.invariant.high;
      before = λ k less. omega (arith, c.self.invariant k middle 0 (omega arith) within, c.index.ensures, get_or_default_zero c.self.inside.tokens.items middle c.index.result.now within, c.if-index-tok.true);
      after = c.loop-low.invariant.after;
    }

pub loop-low-preserved : goal.loop-low-preserved
loop-low-preserved c =
    let middle : ℕ = c.loop-low.low + (c.loop-low.high - c.loop-low.low) / 2 in
    let inside : middle < length c.self.inside.tokens.items = omega (arith, c.loop-low-test.true, c.loop-low.invariant.high) in
    record {
      ends = omega arith;
      high = omega (arith, c.loop-low-test.true, c.loop-low.invariant.high);
      before = c.loop-low.invariant.before;
      after = λ k more within. omega (arith, c.self.invariant middle k 0 (omega arith) within, c.index.ensures, get_or_default_zero c.self.inside.tokens.items middle c.index.result.now inside, c.if-index-tok.false);
    }

pub returns-in-Ok : goal.returns-in-Ok
returns-in-Ok c =
    let same : c.loop-low.low ≡ number_in c.self.inside.tokens.items c.args.tok =
    number-is c.self.inside.tokens.items c.args.tok c.loop-low.low (omega (arith, c.loop-low.invariant.ends, c.loop-low.invariant.high)) c.loop-low.invariant.before
    (λ k more within. c.loop-low.invariant.after k (omega (arith, c.loop-low-test.false)) within) in
    (c.in-Ok.ensures).1 ∙ same ∙ ap (λ (xs : List ℕ). number_in xs c.args.tok) c.self.view_is
