use Rattle.std.proofs.Common.{refl, sym, subst, ◌∙◌, arith}
use Rattle.std.proofs.lemmas.Result.{err_from_is_err_and}
use Rattle.c_lexer.proofs.Cutting.{Reached, reached_start, step_to, reached_end, refused_at, cut_whole}
use Rattle.c_lexer.proofs.Spans.{list_few, list_within, list_filled, list_ordered}
use Rattle.c_lexer.proofs.lexer.tokens.Goals as goal

pub loop-at-init : goal.loop-at-init
loop-at-init c = record {
  text = c.new-at.ensures.text;
  reached = subst (Reached c.args.text.now c.in_ok-lexer.lexer) (sym c.new-at.ensures.at) (reached_start c.args.text.now c.in_ok-lexer.lexer c.in_ok-lexer.ensures);
}

pub returns-in_err-len-clause-refused : goal.returns-in_err-len-clause-refused
returns-in_err-len-clause-refused c =
    let p = err_from_is_err_and c.from_residual-in_err-len.result c.from_residual-in_err-len.ensures.1 in
    rw (p.1, p.2)
    (refused_at c.args.text.now c.loop-at.at.text.now c.loop-at.lexer c.loop-at.at.at c.in_err-len.field-0.0 c.loop-at.invariant.text c.loop-at.invariant.reached c.loop-at-test.true c.in_err-len.ensures.judged)

pub loop-at-preserved : goal.loop-at-preserved
loop-at-preserved c = record {
  text = c.after-at.ensures.text ∙ c.loop-at.invariant.text;
  reached =
      step_to c.args.text.now c.loop-at.at.text.now c.loop-at.lexer c.next.new.self c.loop-at.at.at c.after-at.result.at c.in_ok-len.len c.loop-at.invariant.text c.after-at.ensures.at c.loop-at.invariant.reached c.loop-at-test.true
      c.in_ok-len.ensures.judged c.in_ok-len.ensures.len c.in_ok-len.ensures.within;
}

pub returns-clause-cut : goal.returns-clause-cut
returns-clause-cut c =
    cut_whole c.args.text.now c.loop-at.at.text.now c.loop-at.lexer c.loop-at.at.at c.loop-at.at.pos _ c.loop-at.invariant.text c.loop-at.invariant.reached (omega (arith, c.loop-at-test.false)) c.loop-at.at.place c.in_ok-from_slice.ensures refl refl

pub returns-clause-few : goal.returns-clause-few
returns-clause-few c =
    let all = reached_end c.args.text.now c.loop-at.lexer c.loop-at.at.at c.loop-at.invariant.reached (omega (arith, c.loop-at-test.false)) in
    list_few c.args.text.now c.loop-at.lexer.list all.0 all.1

pub returns-clause-within : goal.returns-clause-within
returns-clause-within c =
    let all = reached_end c.args.text.now c.loop-at.lexer c.loop-at.at.at c.loop-at.invariant.reached (omega (arith, c.loop-at-test.false)) in
    list_within c.args.text.now c.loop-at.lexer.list all.1

pub returns-clause-ordered : goal.returns-clause-ordered
returns-clause-ordered c =
    let all = reached_end c.args.text.now c.loop-at.lexer c.loop-at.at.at c.loop-at.invariant.reached (omega (arith, c.loop-at-test.false)) in
    list_ordered c.args.text.now c.loop-at.lexer.list all.1

pub returns-clause-filled : goal.returns-clause-filled
returns-clause-filled c =
    let all = reached_end c.args.text.now c.loop-at.lexer c.loop-at.at.at c.loop-at.invariant.reached (omega (arith, c.loop-at-test.false)) in
    list_filled c.args.text.now c.loop-at.lexer.list all.1
