use Rattle.std.proofs.Common.{◌≡◌, Option, IfOk, sym, ap, subst, ◌∙◌}
use Rattle.first_form.specs.declared.first.FirstExpr.{FirstExpr}
use Rattle.first_form.specs.Finding.{expression_of}
use Rattle.first_form.proofs.Calls.{expression_of-Call}
use Rattle.first_form.proofs.form.+expression.Goals as goal

pub expression-returns-in-Call : goal.expression-returns-in-Call
expression-returns-in-Call t c =
    subst (λ (f : Option FirstExpr). IfOk c.called.result (λ found. found ≡ f)) (sym (expression_of-Call c.in-Call.call) ∙ ap expression_of (sym c.in-Call.is)) c.called.ensures
