-- The value of a constant expression stays what it is once its names are tied: an induction over the tree.
use Rattle.std.proofs.Common.{◌≡◌, refl, sym, ap, ◌∙◌, subst}
use Rattle.std.specs.Prelude.{ℤ, Option, None}
use Rattle.sat_base.specs.declared.name.At.{At}
use Rattle.sat_base.specs.declared.width.Width.{Width}
use Rattle.c_tree.specs.declared.call.Arg.{Arg, Value', Address, ind-Arg, map-Arg, roll-Arg}
use Rattle.c_tree.specs.declared.call.Arg.TheOpen as node
use Rattle.c_tree.specs.declared.call.Arg.TheVariants as arg
use Rattle.c_tree.specs.declared.call.Call.{Call}
use Rattle.c_tree.specs.declared.expression.Expr.{Expr, roll-Expr}
use Rattle.c_tree.specs.declared.expression.ExprKind.{ExprKind, ind-ExprKind, map-ExprKind, roll-ExprKind}
use Rattle.c_tree.specs.declared.expression.ExprKind.TheVariants as kind
use Rattle.c_tree.specs.declared.place.Place.{Place}
use Rattle.c_typed.specs.declared.call.TypedArg.{TypedArg}
use Rattle.c_typed.specs.declared.expression.TypedExpr.{TypedExpr}
use Rattle.c_typed.specs.declared.expression.TypedExprKind.{TypedExprKind}
use Rattle.c_typed.specs.declared.typed.Typed.{Typed}
use Rattle.constant_expressions.specs.Folding.{converted, unary_value, binary_value, folded, folded_kind}
use Rattle.constant_expressions.proofs.Constants.{folded-Unary, folded-Binary, folded-Cast}
use Rattle.tied_names.specs.declared.tie.Asked.TheVariants as asks
use Rattle.tied_names.specs.Ties.{Here}
use Rattle.tied_expressions.specs.Expressions.{tied_expression, tied_kind, tied_argument}
use Rattle.tied_expressions.specs.Sites.{Tied, with_conversion}
use Rattle.tied_expressions.proofs.Tied_equations as said
use Rattle.lawful_sources.specs.Expressions.{Look, Argued, of_argument, of_kind, argument_look, kind_look, expression_look}
use Rattle.lawful_sources.proofs.Passing.{expression-is}
use Rattle.lawful_names.proofs.Looks as looks

-- the value of an argument that is converted to a width
abbrev pub argument_value : Width → Arg → Option ℤ
argument_value width (Value' at brackets inside) = converted width (folded_kind inside)
argument_value width (Address at place) = None

module _ (source : Typed) where
  abbrev KindValues : ExprKind → Type 0
  KindValues x = (here : Here) → (kind_look source (tied_kind x here).value).value ≡ folded_kind x

  abbrev ExpressionValues : Expr → Type 0
  ExpressionValues x = KindValues x.kind

  abbrev SA : Type 0
  SA = (x : Arg) × Unit {0}

  abbrev SK : Type 0
  SK = (x : ExprKind) × KindValues x

  abbrev SP : Type 0
  SP = (x : Place) × Unit {0}

  abbrev SC : Type 0
  SC = (x : Call) × Unit {0}

  abbrev SE : Type 0
  SE = (x : Expr) × ExpressionValues x

  expression-value : (x : Expr) → ExpressionValues x → (here : Here) → (expression_look source (tied_expression x here).value).value ≡ folded x
  expression-value x values here =
      ap (λ (t : Tied TypedExpr). (expression_look source t.value).value) (said.tied-expression x here) ∙ ap (λ (l : Look). l.value) (expression-is source _) ∙ values here

  by : (x : ExprKind) (here : Here) (t : Tied TypedExprKind) (look : Look) → tied_kind x here ≡ t → kind_look source t.value ≡ look → (value : Option ℤ) → look.value ≡ value → (kind_look source (tied_kind x here).value).value ≡ value
  by x here t look tied is value same = ap (λ (t : Tied TypedExprKind). (kind_look source t.value).value) tied ∙ ap (λ (l : Look). l.value) is ∙ same

  on_kind : (y : node.ExprKind-F SA SK SP SC SE) → KindValues (roll-ExprKind (map-ExprKind SA SK SP SC SE Arg ExprKind Place Call Expr (λ q. q.0) (λ q. q.0) (λ q. q.0) (λ q. q.0) (λ q. q.0) y))
  unfolding of_kind
  on_kind (node.Int value) = subst KindValues (sym (kind.rolls-Int value)) (λ here. by _ here _ _ (said.tied-Int value here) (looks.kind-Int source value) _ refl)
  on_kind (node.Read named) = subst KindValues (sym (kind.rolls-Read named.0)) (λ here. by _ here _ _ (said.tied-Read named.0 here) (looks.kind-Read source _) _ refl)
  on_kind (node.ReadOverflow word_at) = subst KindValues (sym (kind.rolls-ReadOverflow word_at)) (λ here. by _ here _ _ (said.tied-ReadOverflow word_at here) (looks.kind-ReadOverflow source word_at) _ refl)
  on_kind (node.Unary mark mark_at part) = subst KindValues (sym (kind.rolls-Unary mark mark_at part.0)) (λ here.
      by _ here _ _ (said.tied-Unary mark mark_at part.0 here) (looks.kind-Unary source mark mark_at _ _) _ (ap (unary_value mark) (expression-value part.0 part.1 here) ∙ sym (folded-Unary mark mark_at part.0)))
  on_kind (node.Binary mark mark_at one other) = subst KindValues (sym (kind.rolls-Binary mark mark_at one.0 other.0)) (λ here.
      by _ here _ _ (said.tied-Binary mark mark_at one.0 other.0 here) (looks.kind-Binary source mark mark_at _ _ _) _
      (ap (λ (v : Option ℤ). binary_value mark v (expression_look source (tied_expression other.0 here).value).value) (expression-value one.0 one.1 here) ∙ ap (binary_value mark (folded one.0)) (expression-value other.0 other.1 here) ∙ sym (folded-Binary mark mark_at one.0 other.0)))
  on_kind (node.Cast width part) = subst KindValues (sym (kind.rolls-Cast width part.0)) (λ here.
      by _ here _ _ (said.tied-Cast width part.0 here) (looks.kind-Cast source width _) _ (ap (converted width) (expression-value part.0 part.1 here) ∙ sym (folded-Cast width part.0)))
  on_kind (node.Choose cond one other) = subst KindValues (sym (kind.rolls-Choose cond.0 one.0 other.0)) (λ here.
      by _ here _ _ (said.tied-Choose cond.0 one.0 other.0 here) (looks.kind-Choose source _ _ _) _ refl)
  on_kind (node.Call call) = subst KindValues (sym (kind.rolls-Call call.0)) (λ here. by _ here _ _ (said.tied-Call call.0 here) (looks.kind-Call source _) _ refl)

  kind-values : (x : ExprKind) → KindValues x
  kind-values = ind-ExprKind (λ x. Unit {0}) KindValues (λ x. Unit {0}) (λ x. Unit {0}) ExpressionValues
      (λ x y is. tt) (λ x y is. subst (λ z. KindValues (roll-ExprKind z)) is (on_kind y)) (λ x y is. tt) (λ x y is. tt) (λ x y is. subst (λ z. ExpressionValues (roll-Expr z)) is y.kind.1)

  abbrev ArgumentValues : Arg → Type 0
  ArgumentValues x = (here : Here) (width : Width) → (argument_look source (tied_argument x here (asks.Number width)).value).value ≡ argument_value width x

  value-of : (e : Expr) → ArgumentValues (arg.Value e)
  unfolding of_argument of_kind
  value-of e here width =
      ap (λ (t : Tied TypedArg). (argument_look source t.value).value) (said.argument-Number e here width) ∙ ap (λ (a : Argued). a.value) (looks.argument-Value source _)
      ∙ ap (λ (l : Look). l.value) (expression-is source (with_conversion width (tied_expression e here).value) ∙ looks.kind-Convert source width _) ∙ ap (converted width) (expression-value e (kind-values e.kind) here)

  address-of : (at : At) (named : Place) → ArgumentValues (arg.Address at named)
  unfolding of_argument
  address-of at named here width = ap (λ (t : Tied TypedArg). (argument_look source t.value).value) (said.argument-Address at named here (asks.Number width)) ∙ ap (λ (a : Argued). a.value) (looks.argument-Address source at _)

  abbrev TA : Type 0
  TA = (x : Arg) × ArgumentValues x

  abbrev TK : Type 0
  TK = (x : ExprKind) × Unit {0}

  abbrev TE : Type 0
  TE = (x : Expr) × Unit {0}

  on_argument : (y : node.Arg-F TA TK SP SC TE) → ArgumentValues (roll-Arg (map-Arg TA TK SP SC TE Arg ExprKind Place Call Expr (λ q. q.0) (λ q. q.0) (λ q. q.0) (λ q. q.0) (λ q. q.0) y))
  on_argument (node.Value e) = subst ArgumentValues (sym (arg.rolls-Value e.0)) (value-of e.0)
  on_argument (node.Address at named) = subst ArgumentValues (sym (arg.rolls-Address at named.0)) (address-of at named.0)

  pub argument-values : (x : Arg) → ArgumentValues x
  argument-values = ind-Arg ArgumentValues (λ x. Unit {0}) (λ x. Unit {0}) (λ x. Unit {0}) (λ x. Unit {0})
      (λ x y is. subst (λ z. ArgumentValues (roll-Arg z)) is (on_argument y)) (λ x y is. tt) (λ x y is. tt) (λ x y is. tt) (λ x y is. tt)
