use Rattle.std.proofs.Common.{sym, ap, ◌∙◌}
use Rattle.std.specs.Prelude.{Option, ℤ}
use Rattle.c_tree.specs.declared.expression.Expr.{Expr}
use Rattle.constant_expressions.specs.Folding.{folded_kind, unary_value, binary_value, converted}
use Rattle.constant_expressions.proofs.Constants.{folded-Unary, folded-Binary, folded-Cast}
use Rattle.constant_expressions.proofs.folding.+value_of.Goals as goal

pub returns-in-Unary : goal.returns-in-Unary
returns-in-Unary t c =
    c.signed.ensures ∙ ap (unary_value c.in-Unary.mark) (c.value_of.ensures ∙ ap (λ (e : Expr). folded_kind e.kind) c.get.ensures)
    ∙ sym (ap folded_kind c.in-Unary.is ∙ folded-Unary c.in-Unary.mark c.in-Unary.mark_at c.in-Unary.part)

pub returns-in-Binary : goal.returns-in-Binary
returns-in-Binary t c =
    let left = c.value_of-in-Binary.ensures ∙ ap (λ (e : Expr). folded_kind e.kind) c.get-in-Binary.ensures in
    let right = c.value_of-in-Binary-2.ensures ∙ ap (λ (e : Expr). folded_kind e.kind) c.get-in-Binary-2.ensures in
    c.joined.ensures ∙ ap (λ (v : Option ℤ). binary_value c.in-Binary.mark v c.value_of-in-Binary-2.result) left ∙ ap (binary_value c.in-Binary.mark (folded_kind c.in-Binary.left.kind)) right
    ∙ sym (ap folded_kind c.in-Binary.is ∙ folded-Binary c.in-Binary.mark c.in-Binary.mark_at c.in-Binary.left c.in-Binary.right)

pub returns-in-Cast : goal.returns-in-Cast
returns-in-Cast t c =
    c.cast.ensures ∙ ap (converted c.in-Cast.width) (c.value_of-in-Cast.ensures ∙ ap (λ (e : Expr). folded_kind e.kind) c.get-in-Cast.ensures)
    ∙ sym (ap folded_kind c.in-Cast.is ∙ folded-Cast c.in-Cast.width c.in-Cast.part)
