use Rattle.std.proofs.Common.{◌≡◌, ◌||◌, false, ap, ◌∙◌}
use Rattle.c_tree.specs.declared.statement.Stmt.TheVariants as statement
use Rattle.constant_expressions.specs.Returning.{has_own_break}
use Rattle.constant_expressions.proofs.Returned.{breaks-If, breaks-Else, or-taken, or-passed, or-alone}
use Rattle.constant_expressions.proofs.returning.+breaking.Goals as goal

pub has_own_break-returns-then-has_own_break : goal.has_own_break-returns-then-has_own_break
has_own_break-returns-then-has_own_break t c =
    let whole : has_own_break c.args.stmt.now ≡ has_own_break c.in-If.yes || has_own_break c.in-Some.no =
    ap has_own_break (c.in-If.is ∙ ap (statement.If c.in-If.at c.in-If.cond c.in-If.yes) c.in-Some.is) ∙ breaks-Else c.in-If.at c.in-If.cond c.in-If.yes c.in-Some.no in
    or-taken c.has_own_break.result (has_own_break c.in-If.yes) (has_own_break c.in-Some.no) _ (c.has_own_break.ensures ∙ ap has_own_break c.get.ensures) c.if-has_own_break.true whole

pub has_own_break-returns-else-has_own_break : goal.has_own_break-returns-else-has_own_break
has_own_break-returns-else-has_own_break t c =
    let whole : has_own_break c.args.stmt.now ≡ has_own_break c.in-If.yes || has_own_break c.in-Some.no =
    ap has_own_break (c.in-If.is ∙ ap (statement.If c.in-If.at c.in-If.cond c.in-If.yes) c.in-Some.is) ∙ breaks-Else c.in-If.at c.in-If.cond c.in-If.yes c.in-Some.no in
    or-passed c.has_own_break.result (has_own_break c.in-If.yes) (has_own_break c.in-Some.no) _ _ (c.has_own_break.ensures ∙ ap has_own_break c.get.ensures) c.if-has_own_break.false
    (c.has_own_break-else-has_own_break.ensures ∙ ap has_own_break c.get-else-has_own_break.ensures) whole

pub has_own_break-returns-in-None : goal.has_own_break-returns-in-None
has_own_break-returns-in-None t c =
    let whole : has_own_break c.args.stmt.now ≡ has_own_break c.in-If.yes || false =
    ap has_own_break (c.in-If.is ∙ ap (statement.If c.in-If.at c.in-If.cond c.in-If.yes) c.in-None.is) ∙ breaks-If c.in-If.at c.in-If.cond c.in-If.yes in
    or-alone (has_own_break c.in-If.yes) _ _ (c.has_own_break-in-None.ensures ∙ ap has_own_break c.get-in-None.ensures) whole
