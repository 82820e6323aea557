-- Which parts have lawful calls: one equation for each constructor.
use Rattle.std.proofs.Common.{◌≡◌, ℕ, map, Bool, true, ap, sym, ◌∙◌}
use Rattle.std.specs.Prelude.{ℤ, Option, ◌&&◌}
use Rattle.sat_base.specs.declared.name.At.{At}
use Rattle.sat_base.specs.declared.width.Width.{Width}
use Rattle.c_tree.specs.declared.expression.BinaryMark.{BinaryMark}
use Rattle.c_tree.specs.declared.expression.UnaryMark.{UnaryMark}
use Rattle.c_typed.specs.declared.call.TypedArg.TheOpen as node
use Rattle.c_typed.specs.declared.call.TypedArg.TheFolds.{fold-roll-TypedArg, fold-roll-TypedExprKind, fold-roll-TypedPlace, fold_out-TypedCall, fold_out-TypedExpr}
use Rattle.c_typed.specs.declared.call.TypedArg.TheVariants as argument
use Rattle.c_typed.specs.declared.call.TypedCall.{TypedCall}
use Rattle.c_typed.specs.declared.expression.TypedExpr.{TypedExpr}
use Rattle.c_typed.specs.declared.expression.TypedExprKind.TheVariants as kind
use Rattle.c_typed.specs.declared.place.TypedPlace.{TypedPlace}
use Rattle.c_typed.specs.declared.place.TypedPlace.TheVariants as place
use Rattle.tree_agreement.specs.Lawful.{all_hold, takes, of_argument, of_kind, of_place, of_call, of_expression, argument_fits, kind_fits, place_fits, call_fits, expression_fits}

module _ (defined : ℕ → Bool) where
  pub kind-Int : (value : ℤ) → kind_fits defined (kind.Int value) ≡ true
  unfolding of_kind
  kind-Int value = ap (kind_fits defined) (sym (kind.rolls-Int value)) ∙ fold-roll-TypedExprKind _ _ _ _ _ (of_argument defined) (of_kind defined) (of_place defined) (of_call defined) (of_expression defined) (node.Int value)

  pub kind-Read : (place : TypedPlace) → kind_fits defined (kind.Read place) ≡ place_fits defined place
  unfolding of_kind
  kind-Read place = ap (kind_fits defined) (sym (kind.rolls-Read place)) ∙ fold-roll-TypedExprKind _ _ _ _ _ (of_argument defined) (of_kind defined) (of_place defined) (of_call defined) (of_expression defined) (node.Read place)

  pub kind-ReadOverflow : (word_at : At) → kind_fits defined (kind.ReadOverflow word_at) ≡ true
  unfolding of_kind
  kind-ReadOverflow word_at = ap (kind_fits defined) (sym (kind.rolls-ReadOverflow word_at)) ∙ fold-roll-TypedExprKind _ _ _ _ _ (of_argument defined) (of_kind defined) (of_place defined) (of_call defined) (of_expression defined) (node.ReadOverflow word_at)

  pub kind-Unary : (mark : UnaryMark) (mark_at : At) (site : Option ℕ) (part : TypedExpr) → kind_fits defined (kind.Unary mark mark_at site part) ≡ expression_fits defined part
  unfolding of_kind
  kind-Unary mark mark_at site part = ap (kind_fits defined) (sym (kind.rolls-Unary mark mark_at site part)) ∙ fold-roll-TypedExprKind _ _ _ _ _ (of_argument defined) (of_kind defined) (of_place defined) (of_call defined) (of_expression defined) (node.Unary mark mark_at site part)

  pub kind-Binary : (mark : BinaryMark) (mark_at : At) (site : Option ℕ) (left right : TypedExpr) → kind_fits defined (kind.Binary mark mark_at site left right) ≡ (expression_fits defined left && expression_fits defined right)
  unfolding of_kind
  kind-Binary mark mark_at site left right = ap (kind_fits defined) (sym (kind.rolls-Binary mark mark_at site left right)) ∙ fold-roll-TypedExprKind _ _ _ _ _ (of_argument defined) (of_kind defined) (of_place defined) (of_call defined) (of_expression defined) (node.Binary mark mark_at site left right)

  pub kind-Cast : (width : Width) (part : TypedExpr) → kind_fits defined (kind.Cast width part) ≡ expression_fits defined part
  unfolding of_kind
  kind-Cast width part = ap (kind_fits defined) (sym (kind.rolls-Cast width part)) ∙ fold-roll-TypedExprKind _ _ _ _ _ (of_argument defined) (of_kind defined) (of_place defined) (of_call defined) (of_expression defined) (node.Cast width part)

  pub kind-Convert : (width : Width) (part : TypedExpr) → kind_fits defined (kind.Convert width part) ≡ expression_fits defined part
  unfolding of_kind
  kind-Convert width part = ap (kind_fits defined) (sym (kind.rolls-Convert width part)) ∙ fold-roll-TypedExprKind _ _ _ _ _ (of_argument defined) (of_kind defined) (of_place defined) (of_call defined) (of_expression defined) (node.Convert width part)

  pub kind-Choose : (cond this other : TypedExpr) → kind_fits defined (kind.Choose cond this other) ≡ (expression_fits defined cond && (expression_fits defined this && expression_fits defined other))
  unfolding of_kind
  kind-Choose cond this other = ap (kind_fits defined) (sym (kind.rolls-Choose cond this other)) ∙ fold-roll-TypedExprKind _ _ _ _ _ (of_argument defined) (of_kind defined) (of_place defined) (of_call defined) (of_expression defined) (node.Choose cond this other)

  pub kind-Call : (call : TypedCall) → kind_fits defined (kind.Call call) ≡ call_fits defined call
  unfolding of_kind
  kind-Call call = ap (kind_fits defined) (sym (kind.rolls-Call call)) ∙ fold-roll-TypedExprKind _ _ _ _ _ (of_argument defined) (of_kind defined) (of_place defined) (of_call defined) (of_expression defined) (node.Call call)

  pub place-Plain : (at : At) (object : ℕ) → place_fits defined (place.Plain at object) ≡ true
  unfolding of_place
  place-Plain at object = ap (place_fits defined) (sym (place.rolls-Plain at object)) ∙ fold-roll-TypedPlace _ _ _ _ _ (of_argument defined) (of_kind defined) (of_place defined) (of_call defined) (of_expression defined) (node.Plain at object)

  pub place-Index : (at : At) (object : ℕ) (mark_at : At) (site : Option ℕ) (index : TypedExpr) → place_fits defined (place.Index at object mark_at site index) ≡ expression_fits defined index
  unfolding of_place
  place-Index at object mark_at site index = ap (place_fits defined) (sym (place.rolls-Index at object mark_at site index)) ∙ fold-roll-TypedPlace _ _ _ _ _ (of_argument defined) (of_kind defined) (of_place defined) (of_call defined) (of_expression defined) (node.Index at object mark_at site index)

  pub place-Index2 : (at : At) (object : ℕ) (first_at : At) (first_site : Option ℕ) (first : TypedExpr) (second_at : At) (second_site : Option ℕ) (second : TypedExpr) → place_fits defined (place.Index2 at object first_at first_site first second_at second_site second) ≡ (expression_fits defined first && expression_fits defined second)
  unfolding of_place
  place-Index2 at object first_at first_site first second_at second_site second = ap (place_fits defined) (sym (place.rolls-Index2 at object first_at first_site first second_at second_site second)) ∙ fold-roll-TypedPlace _ _ _ _ _ (of_argument defined) (of_kind defined) (of_place defined) (of_call defined) (of_expression defined) (node.Index2 at object first_at first_site first second_at second_site second)

  pub place-Deref : (star_at : At) (site : Option ℕ) (at : At) (object : ℕ) → place_fits defined (place.Deref star_at site at object) ≡ true
  unfolding of_place
  place-Deref star_at site at object = ap (place_fits defined) (sym (place.rolls-Deref star_at site at object)) ∙ fold-roll-TypedPlace _ _ _ _ _ (of_argument defined) (of_kind defined) (of_place defined) (of_call defined) (of_expression defined) (node.Deref star_at site at object)

  pub argument-Value : (e : TypedExpr) → argument_fits defined (argument.Value e) ≡ expression_fits defined e
  unfolding of_argument
  argument-Value e = ap (argument_fits defined) (sym (argument.rolls-Value e)) ∙ fold-roll-TypedArg _ _ _ _ _ (of_argument defined) (of_kind defined) (of_place defined) (of_call defined) (of_expression defined) (node.Value e)

  pub argument-Address : (at : At) (place : TypedPlace) → argument_fits defined (argument.Address at place) ≡ place_fits defined place
  unfolding of_argument
  argument-Address at place = ap (argument_fits defined) (sym (argument.rolls-Address at place)) ∙ fold-roll-TypedArg _ _ _ _ _ (of_argument defined) (of_kind defined) (of_place defined) (of_call defined) (of_expression defined) (node.Address at place)

  pub call-is : (call : TypedCall) → call_fits defined call ≡ (takes defined call.callee (map (argument_fits defined) call.args) && all_hold (map (argument_fits defined) call.args))
  unfolding of_call
  call-is call = fold_out-TypedCall _ _ _ _ _ (of_argument defined) (of_kind defined) (of_place defined) (of_call defined) (of_expression defined) call

  pub expression-is : (e : TypedExpr) → expression_fits defined e ≡ kind_fits defined e.kind
  unfolding of_expression
  expression-is e = fold_out-TypedExpr _ _ _ _ _ (of_argument defined) (of_kind defined) (of_place defined) (of_call defined) (of_expression defined) e
