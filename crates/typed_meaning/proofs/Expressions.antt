-- What the meaning says of each expression, place, argument and call: one equation for each constructor.
use Rattle.std.proofs.Common.{◌≡◌, ℕ, [], map, ap, sym, ◌∙◌}
use Rattle.std.specs.Prelude.{ℤ, Option}
use Rattle.sat_base.specs.declared.name.At.{At}
use Rattle.sat_base.specs.declared.width.Width.{Width}
use Rattle.c_tree.specs.declared.expression.BinaryMark.{BinaryMark}
use Rattle.c_tree.specs.declared.expression.UnaryMark.{UnaryMark}
use Rattle.c_typed.specs.declared.call.TypedArg.TheOpen as node
use Rattle.c_typed.specs.declared.call.TypedArg.TheFolds.{fold-roll-TypedArg, fold-roll-TypedExprKind, fold-roll-TypedPlace, fold_out-TypedCall, fold_out-TypedExpr}
use Rattle.c_typed.specs.declared.call.TypedArg.TheVariants as argument
use Rattle.c_typed.specs.declared.call.TypedCall.{TypedCall}
use Rattle.c_typed.specs.declared.expression.TypedExpr.{TypedExpr}
use Rattle.c_typed.specs.declared.expression.TypedExprKind.TheVariants as kind
use Rattle.c_typed.specs.declared.place.TypedPlace.{TypedPlace}
use Rattle.c_typed.specs.declared.place.TypedPlace.TheVariants as place
use Rattle.source_runs.specs.declared.location.Access.{Access}
use Rattle.source_runs.specs.declared.location.Access.TheVariants.{Element, Address}
use Rattle.source_runs.specs.declared.location.Given.TheVariants.{Number, View}
use Rattle.source_runs.specs.declared.location.Location.{Location}
use Rattle.source_runs.specs.Shapes.{shape_of}
use Rattle.source_runs.specs.State.{converted, number_at}
use Rattle.source_runs.specs.Runs.{Run, gives, ◌>>=◌, reading, found, choosing, gathered}
use Rattle.source_runs.specs.Marks.{unary_meaning, binary_meaning}
use Rattle.source_runs.specs.Steps.{named, pointed}
use Rattle.typed_meaning.specs.Expressions.{Setting, Called, site_at, callee_meaning, index_meaning, indices_meaning, of_argument, of_kind, of_place, of_call, of_expression, argument_meaning, kind_meaning, place_meaning, call_meaning, expression_meaning}

module _ (here : Setting) (called : Called) where
  pub kind-Int : (value : ℤ) → kind_meaning here called (kind.Int value) ≡ gives value
  unfolding of_kind
  kind-Int value = ap (kind_meaning here called) (sym (kind.rolls-Int value)) ∙ fold-roll-TypedExprKind _ _ _ _ _ (of_argument here called) (of_kind here called) (of_place here called) (of_call here called) (of_expression here called) (node.Int value)

  pub kind-Read : (place : TypedPlace) → kind_meaning here called (kind.Read place) ≡ place_meaning here called place Element >>= (λ at. reading (number_at at))
  unfolding of_kind
  kind-Read place = ap (kind_meaning here called) (sym (kind.rolls-Read place)) ∙ fold-roll-TypedExprKind _ _ _ _ _ (of_argument here called) (of_kind here called) (of_place here called) (of_call here called) (of_expression here called) (node.Read place)

  pub kind-ReadOverflow : (word_at : At) → kind_meaning here called (kind.ReadOverflow word_at) ≡ reading (λ kept. kept.overflow)
  unfolding of_kind
  kind-ReadOverflow word_at = ap (kind_meaning here called) (sym (kind.rolls-ReadOverflow word_at)) ∙ fold-roll-TypedExprKind _ _ _ _ _ (of_argument here called) (of_kind here called) (of_place here called) (of_call here called) (of_expression here called) (node.ReadOverflow word_at)

  pub kind-Unary : (mark : UnaryMark) (mark_at : At) (site : Option ℕ) (part : TypedExpr) → kind_meaning here called (kind.Unary mark mark_at site part) ≡ expression_meaning here called part >>= unary_meaning mark (site_at site)
  unfolding of_kind
  kind-Unary mark mark_at site part = ap (kind_meaning here called) (sym (kind.rolls-Unary mark mark_at site part)) ∙ fold-roll-TypedExprKind _ _ _ _ _ (of_argument here called) (of_kind here called) (of_place here called) (of_call here called) (of_expression here called) (node.Unary mark mark_at site part)

  pub kind-Binary : (mark : BinaryMark) (mark_at : At) (site : Option ℕ) (left right : TypedExpr) → kind_meaning here called (kind.Binary mark mark_at site left right) ≡ binary_meaning mark (site_at site) (expression_meaning here called left) (expression_meaning here called right)
  unfolding of_kind
  kind-Binary mark mark_at site left right = ap (kind_meaning here called) (sym (kind.rolls-Binary mark mark_at site left right)) ∙ fold-roll-TypedExprKind _ _ _ _ _ (of_argument here called) (of_kind here called) (of_place here called) (of_call here called) (of_expression here called) (node.Binary mark mark_at site left right)

  pub kind-Cast : (width : Width) (part : TypedExpr) → kind_meaning here called (kind.Cast width part) ≡ expression_meaning here called part >>= (λ x. gives (converted width x))
  unfolding of_kind
  kind-Cast width part = ap (kind_meaning here called) (sym (kind.rolls-Cast width part)) ∙ fold-roll-TypedExprKind _ _ _ _ _ (of_argument here called) (of_kind here called) (of_place here called) (of_call here called) (of_expression here called) (node.Cast width part)

  pub kind-Convert : (width : Width) (part : TypedExpr) → kind_meaning here called (kind.Convert width part) ≡ expression_meaning here called part >>= (λ x. gives (converted width x))
  unfolding of_kind
  kind-Convert width part = ap (kind_meaning here called) (sym (kind.rolls-Convert width part)) ∙ fold-roll-TypedExprKind _ _ _ _ _ (of_argument here called) (of_kind here called) (of_place here called) (of_call here called) (of_expression here called) (node.Convert width part)

  pub kind-Choose : (cond this other : TypedExpr) → kind_meaning here called (kind.Choose cond this other) ≡ choosing (expression_meaning here called cond) (expression_meaning here called this) (expression_meaning here called other)
  unfolding of_kind
  kind-Choose cond this other = ap (kind_meaning here called) (sym (kind.rolls-Choose cond this other)) ∙ fold-roll-TypedExprKind _ _ _ _ _ (of_argument here called) (of_kind here called) (of_place here called) (of_call here called) (of_expression here called) (node.Choose cond this other)

  pub kind-Call : (call : TypedCall) → kind_meaning here called (kind.Call call) ≡ call_meaning here called call
  unfolding of_kind
  kind-Call call = ap (kind_meaning here called) (sym (kind.rolls-Call call)) ∙ fold-roll-TypedExprKind _ _ _ _ _ (of_argument here called) (of_kind here called) (of_place here called) (of_call here called) (of_expression here called) (node.Call call)

  pub place-Plain : (at : At) (object : ℕ) (access : Access) → place_meaning here called (place.Plain at object) access ≡ reading (named (shape_of here.objects object))
  unfolding of_place
  place-Plain at object access =
      ap (λ (p : TypedPlace). place_meaning here called p access) (sym (place.rolls-Plain at object))
      ∙ ap (λ (f : Access → Run Location). f access) (fold-roll-TypedPlace _ _ _ _ _ (of_argument here called) (of_kind here called) (of_place here called) (of_call here called) (of_expression here called) (node.Plain at object))

  pub place-Index : (at : At) (object : ℕ) (mark_at : At) (site : Option ℕ) (index : TypedExpr) (access : Access) → place_meaning here called (place.Index at object mark_at site index) access ≡ index_meaning here object (site_at site) (expression_meaning here called index) access
  unfolding of_place
  place-Index at object mark_at site index access =
      ap (λ (p : TypedPlace). place_meaning here called p access) (sym (place.rolls-Index at object mark_at site index))
      ∙ ap (λ (f : Access → Run Location). f access) (fold-roll-TypedPlace _ _ _ _ _ (of_argument here called) (of_kind here called) (of_place here called) (of_call here called) (of_expression here called) (node.Index at object mark_at site index))

  pub place-Index2 : (at : At) (object : ℕ) (first_at : At) (first_site : Option ℕ) (first : TypedExpr) (second_at : At) (second_site : Option ℕ) (second : TypedExpr) (access : Access) → place_meaning here called (place.Index2 at object first_at first_site first second_at second_site second) access ≡ indices_meaning here object (site_at first_site) (expression_meaning here called first) (site_at second_site) (expression_meaning here called second) access
  unfolding of_place
  place-Index2 at object first_at first_site first second_at second_site second access =
      ap (λ (p : TypedPlace). place_meaning here called p access) (sym (place.rolls-Index2 at object first_at first_site first second_at second_site second))
      ∙ ap (λ (f : Access → Run Location). f access) (fold-roll-TypedPlace _ _ _ _ _ (of_argument here called) (of_kind here called) (of_place here called) (of_call here called) (of_expression here called) (node.Index2 at object first_at first_site first second_at second_site second))

  pub place-Deref : (star_at : At) (site : Option ℕ) (at : At) (object : ℕ) (access : Access) → place_meaning here called (place.Deref star_at site at object) access ≡ found (site_at site) (pointed (shape_of here.objects object))
  unfolding of_place
  place-Deref star_at site at object access =
      ap (λ (p : TypedPlace). place_meaning here called p access) (sym (place.rolls-Deref star_at site at object))
      ∙ ap (λ (f : Access → Run Location). f access) (fold-roll-TypedPlace _ _ _ _ _ (of_argument here called) (of_kind here called) (of_place here called) (of_call here called) (of_expression here called) (node.Deref star_at site at object))

  pub argument-Value : (e : TypedExpr) → argument_meaning here called (argument.Value e) ≡ expression_meaning here called e >>= (λ x. gives (Number x))
  unfolding of_argument
  argument-Value e = ap (argument_meaning here called) (sym (argument.rolls-Value e)) ∙ fold-roll-TypedArg _ _ _ _ _ (of_argument here called) (of_kind here called) (of_place here called) (of_call here called) (of_expression here called) (node.Value e)

  pub argument-Address : (at : At) (place : TypedPlace) → argument_meaning here called (argument.Address at place) ≡ place_meaning here called place Address >>= (λ to. gives (View to))
  unfolding of_argument
  argument-Address at place = ap (argument_meaning here called) (sym (argument.rolls-Address at place)) ∙ fold-roll-TypedArg _ _ _ _ _ (of_argument here called) (of_kind here called) (of_place here called) (of_call here called) (of_expression here called) (node.Address at place)

  pub call-is : (call : TypedCall) → call_meaning here called call ≡ (gathered [] (map (argument_meaning here called) call.args) >>= callee_meaning here called call.callee (site_at call.site))
  unfolding of_call
  call-is call = fold_out-TypedCall _ _ _ _ _ (of_argument here called) (of_kind here called) (of_place here called) (of_call here called) (of_expression here called) call

  pub expression-is : (e : TypedExpr) → expression_meaning here called e ≡ kind_meaning here called e.kind
  unfolding of_expression
  expression-is e = fold_out-TypedExpr _ _ _ _ _ (of_argument here called) (of_kind here called) (of_place here called) (of_call here called) (of_expression here called) e

pub ruleset expressions = (kind-Int, kind-Read, kind-ReadOverflow, kind-Unary, kind-Binary, kind-Cast, kind-Convert, kind-Choose, kind-Call, place-Plain, place-Index, place-Index2, place-Deref, argument-Value, argument-Address, call-is, expression-is)
