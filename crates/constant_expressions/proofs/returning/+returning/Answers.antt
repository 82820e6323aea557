use Rattle.std.proofs.Common.{◌≡◌, not, ◌&&◌, sym, ap, ◌∙◌}
use Rattle.std.specs.Prelude.{Some, None, Option}
use Rattle.c_tree.specs.declared.expression.Expr.{Expr}
use Rattle.c_tree.specs.declared.statement.Stmt.TheVariants as statement
use Rattle.constant_expressions.specs.Returning.{has_own_break, is_endless, statement_returns}
use Rattle.constant_expressions.proofs.Returned.{returns-If, returns-Else, returns-While, returns-For, and-dropped, and-held, and-never}
use Rattle.constant_expressions.proofs.returning.+returning.Goals as goal

pub statement_returns-returns-then-statement_returns : goal.statement_returns-returns-then-statement_returns
statement_returns-returns-then-statement_returns t c =
    let whole : statement_returns c.args.stmt.now ≡ statement_returns c.in-If.yes && statement_returns c.in-Some.no =
    ap statement_returns (c.in-If.is ∙ ap (statement.If c.in-If.at c.in-If.cond c.in-If.yes) c.in-Some.is) ∙ returns-Else c.in-If.at c.in-If.cond c.in-If.yes c.in-Some.no in
    and-held c.statement_returns.result (statement_returns c.in-If.yes) (statement_returns c.in-Some.no) _ _ (c.statement_returns.ensures ∙ ap statement_returns c.get.ensures) c.if-statement_returns.true
    (c.statement_returns-then-statement_returns.ensures ∙ ap statement_returns c.get-then-statement_returns.ensures) whole

pub statement_returns-returns-else-statement_returns : goal.statement_returns-returns-else-statement_returns
statement_returns-returns-else-statement_returns t c =
    let whole : statement_returns c.args.stmt.now ≡ statement_returns c.in-If.yes && statement_returns c.in-Some.no =
    ap statement_returns (c.in-If.is ∙ ap (statement.If c.in-If.at c.in-If.cond c.in-If.yes) c.in-Some.is) ∙ returns-Else c.in-If.at c.in-If.cond c.in-If.yes c.in-Some.no in
    and-dropped c.statement_returns.result (statement_returns c.in-If.yes) (statement_returns c.in-Some.no) _ (c.statement_returns.ensures ∙ ap statement_returns c.get.ensures) c.if-statement_returns.false whole

pub statement_returns-returns-in-None : goal.statement_returns-returns-in-None
statement_returns-returns-in-None t c =
    and-never (statement_returns c.in-If.yes) _
    (ap statement_returns (c.in-If.is ∙ ap (statement.If c.in-If.at c.in-If.cond c.in-If.yes) c.in-None.is) ∙ returns-If c.in-If.at c.in-If.cond c.in-If.yes)

pub statement_returns-returns-then-is_endless : goal.statement_returns-returns-then-is_endless
statement_returns-returns-then-is_endless t c =
    and-held c.is_endless.result (is_endless c.in-While.cond) (not (has_own_break c.in-While.body)) _ _ (c.is_endless.ensures ∙ ap is_endless c.get-in-While.ensures) c.if-is_endless.true
    (ap not (c.has_own_break.ensures ∙ ap has_own_break c.get-then-is_endless.ensures))
    (ap statement_returns c.in-While.is ∙ returns-While c.in-While.at c.in-While.cond c.in-While.body)

pub statement_returns-returns-then-is_endless-2 : goal.statement_returns-returns-then-is_endless-2
statement_returns-returns-then-is_endless-2 t c =
    and-held c.is_endless-in-Some-cond.result (is_endless c.in-Some-cond.cond) (not (has_own_break c.in-For.body)) _ _ (c.is_endless-in-Some-cond.ensures ∙ ap is_endless c.get-in-Some-cond.ensures) c.if-is_endless-2.true
    (ap not (c.has_own_break-then-is_endless-2.ensures ∙ ap has_own_break c.get-then-is_endless-2.ensures))
    (ap statement_returns (c.in-For.is ∙ ap (λ (cond : Option Expr). statement.For c.in-For.at c.in-For.first cond c.in-For.last c.in-For.body) c.in-Some-cond.is)
    ∙ returns-For c.in-For.at c.in-For.first (Some c.in-Some-cond.cond) c.in-For.last c.in-For.body)

pub statement_returns-returns-in-None-cond : goal.statement_returns-returns-in-None-cond
statement_returns-returns-in-None-cond t c =
    ap not (c.has_own_break-in-None-cond.ensures ∙ ap has_own_break c.get-in-None-cond.ensures)
    ∙ sym (ap statement_returns (c.in-For.is ∙ ap (λ (cond : Option Expr). statement.For c.in-For.at c.in-For.first cond c.in-For.last c.in-For.body) c.in-None-cond.is)
    ∙ returns-For c.in-For.at c.in-For.first None c.in-For.last c.in-For.body)
