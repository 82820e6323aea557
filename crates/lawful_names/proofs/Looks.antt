-- What stands in each expression, place and argument: one equation for each.
use Rattle.std.proofs.Common.{◌≡◌, ℕ, sym, ap, ◌∙◌}
use Rattle.std.specs.Prelude.{ℤ, Option}
use Rattle.sat_base.specs.declared.name.At.{At}
use Rattle.sat_base.specs.declared.width.Width.{Width}
use Rattle.c_tree.specs.declared.expression.BinaryMark.{BinaryMark}
use Rattle.c_tree.specs.declared.expression.UnaryMark.{UnaryMark}
use Rattle.c_typed.specs.declared.call.TypedArg.TheOpen as node
use Rattle.c_typed.specs.declared.call.TypedArg.TheFolds.{fold-roll-TypedArg, fold-roll-TypedExprKind, fold-roll-TypedPlace}
use Rattle.c_typed.specs.declared.call.TypedArg.TheVariants as argument
use Rattle.c_typed.specs.declared.call.TypedCall.{TypedCall}
use Rattle.c_typed.specs.declared.expression.TypedExpr.{TypedExpr}
use Rattle.c_typed.specs.declared.expression.TypedExprKind.TheVariants as kind
use Rattle.c_typed.specs.declared.place.TypedPlace.{TypedPlace}
use Rattle.c_typed.specs.declared.place.TypedPlace.TheVariants as place
use Rattle.c_typed.specs.declared.typed.Typed.{Typed}
use Rattle.lawful_sources.specs.Expressions.{Look, Argued, Placed, Calling, of_argument, of_kind, of_place, of_call, of_expression, argument_look, kind_look, expression_look, in_place, in_call}

module _ (source : Typed) where
  pub kind-Int : (value : ℤ) → kind_look source (kind.Int value) ≡ of_kind source (node.Int value)
  kind-Int value = ap (kind_look source) (sym (kind.rolls-Int value)) ∙ fold-roll-TypedExprKind Argued Look Placed Calling Look (of_argument source) (of_kind source) (of_place source) (of_call source) (of_expression source) (node.Int value)

  pub kind-Read : (named : TypedPlace) → kind_look source (kind.Read named) ≡ of_kind source (node.Read (in_place source named))
  kind-Read named = ap (kind_look source) (sym (kind.rolls-Read named)) ∙ fold-roll-TypedExprKind Argued Look Placed Calling Look (of_argument source) (of_kind source) (of_place source) (of_call source) (of_expression source) (node.Read named)

  pub kind-ReadOverflow : (word_at : At) → kind_look source (kind.ReadOverflow word_at) ≡ of_kind source (node.ReadOverflow word_at)
  kind-ReadOverflow word_at = ap (kind_look source) (sym (kind.rolls-ReadOverflow word_at)) ∙ fold-roll-TypedExprKind Argued Look Placed Calling Look (of_argument source) (of_kind source) (of_place source) (of_call source) (of_expression source) (node.ReadOverflow word_at)

  pub kind-Unary : (mark : UnaryMark) (mark_at : At) (site : Option ℕ) (part : TypedExpr) → kind_look source (kind.Unary mark mark_at site part) ≡ of_kind source (node.Unary mark mark_at site (expression_look source part))
  kind-Unary mark mark_at site part = ap (kind_look source) (sym (kind.rolls-Unary mark mark_at site part)) ∙ fold-roll-TypedExprKind Argued Look Placed Calling Look (of_argument source) (of_kind source) (of_place source) (of_call source) (of_expression source) (node.Unary mark mark_at site part)

  pub kind-Binary : (mark : BinaryMark) (mark_at : At) (site : Option ℕ) (left right : TypedExpr) → kind_look source (kind.Binary mark mark_at site left right) ≡ of_kind source (node.Binary mark mark_at site (expression_look source left) (expression_look source right))
  kind-Binary mark mark_at site left right = ap (kind_look source) (sym (kind.rolls-Binary mark mark_at site left right)) ∙ fold-roll-TypedExprKind Argued Look Placed Calling Look (of_argument source) (of_kind source) (of_place source) (of_call source) (of_expression source) (node.Binary mark mark_at site left right)

  pub kind-Cast : (width : Width) (part : TypedExpr) → kind_look source (kind.Cast width part) ≡ of_kind source (node.Cast width (expression_look source part))
  kind-Cast width part = ap (kind_look source) (sym (kind.rolls-Cast width part)) ∙ fold-roll-TypedExprKind Argued Look Placed Calling Look (of_argument source) (of_kind source) (of_place source) (of_call source) (of_expression source) (node.Cast width part)

  pub kind-Convert : (width : Width) (part : TypedExpr) → kind_look source (kind.Convert width part) ≡ of_kind source (node.Convert width (expression_look source part))
  kind-Convert width part = ap (kind_look source) (sym (kind.rolls-Convert width part)) ∙ fold-roll-TypedExprKind Argued Look Placed Calling Look (of_argument source) (of_kind source) (of_place source) (of_call source) (of_expression source) (node.Convert width part)

  pub kind-Choose : (cond one other : TypedExpr) → kind_look source (kind.Choose cond one other) ≡ of_kind source (node.Choose (expression_look source cond) (expression_look source one) (expression_look source other))
  kind-Choose cond one other = ap (kind_look source) (sym (kind.rolls-Choose cond one other)) ∙ fold-roll-TypedExprKind Argued Look Placed Calling Look (of_argument source) (of_kind source) (of_place source) (of_call source) (of_expression source) (node.Choose cond one other)

  pub kind-Call : (call : TypedCall) → kind_look source (kind.Call call) ≡ of_kind source (node.Call (in_call source call))
  kind-Call call = ap (kind_look source) (sym (kind.rolls-Call call)) ∙ fold-roll-TypedExprKind Argued Look Placed Calling Look (of_argument source) (of_kind source) (of_place source) (of_call source) (of_expression source) (node.Call call)

  pub place-Plain : (at : At) (object : ℕ) → in_place source (place.Plain at object) ≡ of_place source (node.Plain at object)
  place-Plain at object = ap (in_place source) (sym (place.rolls-Plain at object)) ∙ fold-roll-TypedPlace Argued Look Placed Calling Look (of_argument source) (of_kind source) (of_place source) (of_call source) (of_expression source) (node.Plain at object)

  pub place-Index : (at : At) (object : ℕ) (mark_at : At) (site : Option ℕ) (index : TypedExpr) → in_place source (place.Index at object mark_at site index) ≡ of_place source (node.Index at object mark_at site (expression_look source index))
  place-Index at object mark_at site index = ap (in_place source) (sym (place.rolls-Index at object mark_at site index)) ∙ fold-roll-TypedPlace Argued Look Placed Calling Look (of_argument source) (of_kind source) (of_place source) (of_call source) (of_expression source) (node.Index at object mark_at site index)

  pub place-Index2 : (at : At) (object : ℕ) (first_at : At) (first_site : Option ℕ) (first : TypedExpr) (second_at : At) (second_site : Option ℕ) (second : TypedExpr) → in_place source (place.Index2 at object first_at first_site first second_at second_site second) ≡ of_place source (node.Index2 at object first_at first_site (expression_look source first) second_at second_site (expression_look source second))
  place-Index2 at object first_at first_site first second_at second_site second = ap (in_place source) (sym (place.rolls-Index2 at object first_at first_site first second_at second_site second)) ∙ fold-roll-TypedPlace Argued Look Placed Calling Look (of_argument source) (of_kind source) (of_place source) (of_call source) (of_expression source) (node.Index2 at object first_at first_site first second_at second_site second)

  pub place-Deref : (star_at : At) (site : Option ℕ) (at : At) (object : ℕ) → in_place source (place.Deref star_at site at object) ≡ of_place source (node.Deref star_at site at object)
  place-Deref star_at site at object = ap (in_place source) (sym (place.rolls-Deref star_at site at object)) ∙ fold-roll-TypedPlace Argued Look Placed Calling Look (of_argument source) (of_kind source) (of_place source) (of_call source) (of_expression source) (node.Deref star_at site at object)

  pub argument-Value : (value : TypedExpr) → argument_look source (argument.Value value) ≡ of_argument source (node.Value (expression_look source value))
  argument-Value value = ap (argument_look source) (sym (argument.rolls-Value value)) ∙ fold-roll-TypedArg Argued Look Placed Calling Look (of_argument source) (of_kind source) (of_place source) (of_call source) (of_expression source) (node.Value value)

  pub argument-Address : (at : At) (named : TypedPlace) → argument_look source (argument.Address at named) ≡ of_argument source (node.Address at (in_place source named))
  argument-Address at named = ap (argument_look source) (sym (argument.rolls-Address at named)) ∙ fold-roll-TypedArg Argued Look Placed Calling Look (of_argument source) (of_kind source) (of_place source) (of_call source) (of_expression source) (node.Address at named)
