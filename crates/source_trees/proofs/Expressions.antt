-- The tree of each expression, place, argument and call: one equation for each constructor.
use Rattle.std.proofs.Common.{◌≡◌, ℕ, ◌+◌, map, ap, sym, ◌∙◌}
use Rattle.std.specs.Prelude.{ℤ, Option, true, false}
use Rattle.sat_base.specs.declared.name.At.{At}
use Rattle.sat_base.specs.declared.width.Width.{Width}
use Rattle.operator_meaning.specs.declared.site.SiteKind.TheVariants.{Bound, ViewBound}
use Rattle.c_tree.specs.declared.expression.BinaryMark.{BinaryMark}
use Rattle.c_tree.specs.declared.expression.UnaryMark.{UnaryMark}
use Rattle.c_typed.specs.declared.call.TypedArg.TheOpen as node
use Rattle.c_typed.specs.declared.call.TypedArg.TheFolds.{fold-roll-TypedArg, fold-roll-TypedExprKind, fold-roll-TypedPlace, fold_out-TypedCall, fold_out-TypedExpr}
use Rattle.c_typed.specs.declared.call.TypedArg.TheVariants as argument
use Rattle.c_typed.specs.declared.call.TypedCall.{TypedCall}
use Rattle.c_typed.specs.declared.expression.TypedExpr.{TypedExpr}
use Rattle.c_typed.specs.declared.expression.TypedExprKind.TheVariants as kind
use Rattle.c_typed.specs.declared.place.TypedPlace.{TypedPlace}
use Rattle.c_typed.specs.declared.place.TypedPlace.TheVariants as place
use Rattle.source_runs.specs.declared.location.Access.{Access}
use Rattle.source_runs.specs.declared.location.Access.TheVariants.{Element, Address}
use Rattle.source_runs.specs.Shapes.{shape_of}
use Rattle.source_runs.specs.Steps.{edge}
use Rattle.typed_meaning.specs.Expressions.{site_at}
use Rattle.ir_arena.specs.Tree as tree
use Rattle.ir_arena.specs.Tree.{IrTarget}
use Rattle.source_trees.specs.Expressions.{TreeSetting, one, two, plain_site, unary_tree, binary_tree, index_kind, indexed, called_tree, of_argument, of_kind, of_place, of_call, of_expression, argument_tree, kind_tree, place_tree, call_tree, expression_tree}

module _ (here : TreeSetting) where
  pub kind-Int : (value : ℤ) → kind_tree here (kind.Int value) ≡ tree.Constant value
  unfolding of_kind
  kind-Int value = ap (kind_tree here) (sym (kind.rolls-Int value)) ∙ fold-roll-TypedExprKind _ _ _ _ _ (of_argument here) (of_kind here) (of_place here) (of_call here) (of_expression here) (node.Int value)

  pub kind-Read : (place : TypedPlace) → kind_tree here (kind.Read place) ≡ tree.Read (place_tree here place Element)
  unfolding of_kind
  kind-Read place = ap (kind_tree here) (sym (kind.rolls-Read place)) ∙ fold-roll-TypedExprKind _ _ _ _ _ (of_argument here) (of_kind here) (of_place here) (of_call here) (of_expression here) (node.Read place)

  pub kind-ReadOverflow : (word_at : At) → kind_tree here (kind.ReadOverflow word_at) ≡ tree.ReadFlag word_at.pos
  unfolding of_kind
  kind-ReadOverflow word_at = ap (kind_tree here) (sym (kind.rolls-ReadOverflow word_at)) ∙ fold-roll-TypedExprKind _ _ _ _ _ (of_argument here) (of_kind here) (of_place here) (of_call here) (of_expression here) (node.ReadOverflow word_at)

  pub kind-Unary : (mark : UnaryMark) (mark_at : At) (site : Option ℕ) (part : TypedExpr) → kind_tree here (kind.Unary mark mark_at site part) ≡ unary_tree mark (site_at site) (expression_tree here part)
  unfolding of_kind
  kind-Unary mark mark_at site part = ap (kind_tree here) (sym (kind.rolls-Unary mark mark_at site part)) ∙ fold-roll-TypedExprKind _ _ _ _ _ (of_argument here) (of_kind here) (of_place here) (of_call here) (of_expression here) (node.Unary mark mark_at site part)

  pub kind-Binary : (mark : BinaryMark) (mark_at : At) (site : Option ℕ) (left right : TypedExpr) → kind_tree here (kind.Binary mark mark_at site left right) ≡ binary_tree mark (site_at site) (expression_tree here left) (expression_tree here right)
  unfolding of_kind
  kind-Binary mark mark_at site left right = ap (kind_tree here) (sym (kind.rolls-Binary mark mark_at site left right)) ∙ fold-roll-TypedExprKind _ _ _ _ _ (of_argument here) (of_kind here) (of_place here) (of_call here) (of_expression here) (node.Binary mark mark_at site left right)

  pub kind-Cast : (width : Width) (part : TypedExpr) → kind_tree here (kind.Cast width part) ≡ tree.Convert true width (expression_tree here part)
  unfolding of_kind
  kind-Cast width part = ap (kind_tree here) (sym (kind.rolls-Cast width part)) ∙ fold-roll-TypedExprKind _ _ _ _ _ (of_argument here) (of_kind here) (of_place here) (of_call here) (of_expression here) (node.Cast width part)

  pub kind-Convert : (width : Width) (part : TypedExpr) → kind_tree here (kind.Convert width part) ≡ tree.Convert false width (expression_tree here part)
  unfolding of_kind
  kind-Convert width part = ap (kind_tree here) (sym (kind.rolls-Convert width part)) ∙ fold-roll-TypedExprKind _ _ _ _ _ (of_argument here) (of_kind here) (of_place here) (of_call here) (of_expression here) (node.Convert width part)

  pub kind-Choose : (cond this other : TypedExpr) → kind_tree here (kind.Choose cond this other) ≡ tree.Choose (expression_tree here cond) (expression_tree here this) (expression_tree here other)
  unfolding of_kind
  kind-Choose cond this other = ap (kind_tree here) (sym (kind.rolls-Choose cond this other)) ∙ fold-roll-TypedExprKind _ _ _ _ _ (of_argument here) (of_kind here) (of_place here) (of_call here) (of_expression here) (node.Choose cond this other)

  pub kind-Call : (call : TypedCall) → kind_tree here (kind.Call call) ≡ call_tree here call
  unfolding of_kind
  kind-Call call = ap (kind_tree here) (sym (kind.rolls-Call call)) ∙ fold-roll-TypedExprKind _ _ _ _ _ (of_argument here) (of_kind here) (of_place here) (of_call here) (of_expression here) (node.Call call)

  pub place-Plain : (at : At) (object : ℕ) (which : Access) → place_tree here (place.Plain at object) which ≡ tree.Variable object
  unfolding of_place
  place-Plain at object which =
      ap (λ (p : TypedPlace). place_tree here p which) (sym (place.rolls-Plain at object))
      ∙ ap (λ (f : Access → IrTarget). f which) (fold-roll-TypedPlace _ _ _ _ _ (of_argument here) (of_kind here) (of_place here) (of_call here) (of_expression here) (node.Plain at object))

  pub place-Index : (at : At) (object : ℕ) (mark_at : At) (site : Option ℕ) (index : TypedExpr) (which : Access) → place_tree here (place.Index at object mark_at site index) which ≡ indexed (shape_of here.objects object) (one (plain_site (site_at site) (index_kind which (shape_of here.objects object)) (one (expression_tree here index))))
  unfolding of_place
  place-Index at object mark_at site index which =
      ap (λ (p : TypedPlace). place_tree here p which) (sym (place.rolls-Index at object mark_at site index))
      ∙ ap (λ (f : Access → IrTarget). f which) (fold-roll-TypedPlace _ _ _ _ _ (of_argument here) (of_kind here) (of_place here) (of_call here) (of_expression here) (node.Index at object mark_at site index))

  pub place-Index2 : (at : At) (object : ℕ) (first_at : At) (first_site : Option ℕ) (first : TypedExpr) (second_at : At) (second_site : Option ℕ) (second : TypedExpr) (which : Access) → place_tree here (place.Index2 at object first_at first_site first second_at second_site second) which ≡ indexed (shape_of here.objects object) (two (plain_site (site_at first_site) (Bound (shape_of here.objects object).rows) (one (expression_tree here first))) (plain_site (site_at second_site) (Bound ((shape_of here.objects object).columns + edge which)) (one (expression_tree here second))))
  unfolding of_place
  place-Index2 at object first_at first_site first second_at second_site second which =
      ap (λ (p : TypedPlace). place_tree here p which) (sym (place.rolls-Index2 at object first_at first_site first second_at second_site second))
      ∙ ap (λ (f : Access → IrTarget). f which) (fold-roll-TypedPlace _ _ _ _ _ (of_argument here) (of_kind here) (of_place here) (of_call here) (of_expression here) (node.Index2 at object first_at first_site first second_at second_site second))

  pub place-Deref : (star_at : At) (site : Option ℕ) (at : At) (object : ℕ) (which : Access) → place_tree here (place.Deref star_at site at object) which ≡ indexed (shape_of here.objects object) (one (plain_site (site_at site) ViewBound tree.end))
  unfolding of_place
  place-Deref star_at site at object which =
      ap (λ (p : TypedPlace). place_tree here p which) (sym (place.rolls-Deref star_at site at object))
      ∙ ap (λ (f : Access → IrTarget). f which) (fold-roll-TypedPlace _ _ _ _ _ (of_argument here) (of_kind here) (of_place here) (of_call here) (of_expression here) (node.Deref star_at site at object))

  pub argument-Value : (e : TypedExpr) → argument_tree here (argument.Value e) ≡ expression_tree here e
  unfolding of_argument
  argument-Value e = ap (argument_tree here) (sym (argument.rolls-Value e)) ∙ fold-roll-TypedArg _ _ _ _ _ (of_argument here) (of_kind here) (of_place here) (of_call here) (of_expression here) (node.Value e)

  pub argument-Address : (at : At) (place : TypedPlace) → argument_tree here (argument.Address at place) ≡ tree.Address (place_tree here place Address)
  unfolding of_argument
  argument-Address at place = ap (argument_tree here) (sym (argument.rolls-Address at place)) ∙ fold-roll-TypedArg _ _ _ _ _ (of_argument here) (of_kind here) (of_place here) (of_call here) (of_expression here) (node.Address at place)

  pub call-is : (call : TypedCall) → call_tree here call ≡ called_tree here call.callee (site_at call.site) (map (argument_tree here) call.args)
  unfolding of_call
  call-is call = fold_out-TypedCall _ _ _ _ _ (of_argument here) (of_kind here) (of_place here) (of_call here) (of_expression here) call

  pub expression-is : (e : TypedExpr) → expression_tree here e ≡ kind_tree here e.kind
  unfolding of_expression
  expression-is e = fold_out-TypedExpr _ _ _ _ _ (of_argument here) (of_kind here) (of_place here) (of_call here) (of_expression here) e

pub ruleset expression_trees = (kind-Int, kind-Read, kind-ReadOverflow, kind-Unary, kind-Binary, kind-Cast, kind-Convert, kind-Choose, kind-Call, place-Plain, place-Index, place-Index2, place-Deref, argument-Value, argument-Address, call-is, expression-is)
