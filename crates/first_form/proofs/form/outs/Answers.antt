use Rattle.std.proofs.Common.{◌+◌, drop, List, sym, ap, ◌∙◌}
use Rattle.first_form.specs.declared.first.FirstExpr.{FirstExpr}
use Rattle.first_form.proofs.Outs.{found_with, found_more, found_none, found_all}
use Rattle.first_form.proofs.form.outs.Goals as goal

pub returns-in_default : goal.returns-in_default
returns-in_default c =
    sym (c.loop-stmt.invariant ∙ found_none c.loop-stmt.outs c.args.stmts.now c.loop-stmt.stmt-index c.stmt-item.result c.loop-stmt-test.true c.stmt-item.is (sym c.in_ok-written.ensures ∙ c.in_default.is))

pub loop-stmt-preserved : goal.loop-stmt-preserved
loop-stmt-preserved c =
    let e = c.in-Some.written in
    let more = found_more c.loop-stmt.outs c.args.stmts.now c.loop-stmt.stmt-index c.stmt-item.result e c.loop-stmt-test.true c.stmt-item.is (sym c.in_ok-written.ensures ∙ c.in-Some.is) in
    c.loop-stmt.invariant ∙ more ∙ ap (λ (outs : List FirstExpr). found_with outs (drop (c.loop-stmt.stmt-index + 1) c.args.stmts.now)) (sym c.in_ok-push.ensures.ok)

pub returns : goal.returns
returns c = sym (c.loop-stmt.invariant ∙ found_all c.loop-stmt.outs c.args.stmts.now c.loop-stmt.stmt-index c.loop-stmt-test.false)
