-- An expression at more turns goes on from the same one at fewer: an induction over the tree.
use Rattle.std.proofs.Common.{◌≡◌, ℕ, List, [], map, ap, subst}
use Rattle.std.specs.Prelude.{ℤ}
use Rattle.operator_meaning.specs.declared.object.Object.{Object}
use Rattle.weight_table.specs.declared.table.Table.{Table}
use Rattle.c_typed.specs.declared.call.TypedArg.{TypedArg}
use Rattle.c_typed.specs.declared.call.TypedArg.TheOpen as node
use Rattle.c_typed.specs.declared.call.TypedArg.TheViews.{roll-TypedArg, roll-TypedExprKind, roll-TypedPlace}
use Rattle.c_typed.specs.declared.call.TypedArg.TheFolds.{map-TypedArg, map-TypedExprKind, map-TypedPlace, fold-roll-TypedArg, fold-roll-TypedExprKind, fold-roll-TypedPlace, ind-TypedArg, ind-TypedPlace, ind-TypedCall, ind-TypedExpr}
use Rattle.c_typed.specs.declared.call.TypedCall.{TypedCall, roll-TypedCall}
use Rattle.c_typed.specs.declared.expression.TypedExpr.{TypedExpr, roll-TypedExpr}
use Rattle.c_typed.specs.declared.expression.TypedExprKind.{TypedExprKind}
use Rattle.c_typed.specs.declared.place.TypedPlace.{TypedPlace}
use Rattle.source_runs.specs.declared.location.Access.{Access}
use Rattle.source_runs.specs.declared.location.Access.TheVariants.{Element, Address}
use Rattle.source_runs.specs.declared.location.Given.{Given}
use Rattle.source_runs.specs.declared.location.Location.{Location}
use Rattle.source_runs.specs.Runs.{Run}
use Rattle.typed_meaning.specs.Expressions.{Setting, Called, site_at, index_meaning, indices_meaning, of_argument, of_kind, of_place, of_call, of_expression, argument_meaning, kind_meaning, place_meaning, call_meaning, expression_meaning}
use Rattle.typed_meaning.proofs.Expressions.{call-is, expression-is}
use Rattle.source_laws.proofs.Extending.{Extends, extends-as, extends-gives, extends-reading, extends-site, extends-next, extends-found, extends-choosing, extends-gathered}
use Rattle.source_laws.proofs.Steps.{extends-unary, extends-binary, extends-callee}

module _ (here : Setting) (called : Called) where
  roll_argument : (z : node.TypedArg-F TypedArg TypedExprKind TypedPlace TypedCall TypedExpr) → argument_meaning here called (roll-TypedArg z)
      ≡ of_argument here called (map-TypedArg TypedArg TypedExprKind TypedPlace TypedCall TypedExpr (Run Given) (Run ℤ) (Access → Run Location) (Run ℤ) (Run ℤ) (argument_meaning here called) (kind_meaning here called) (place_meaning here called) (call_meaning here called) (expression_meaning here called) z)
  roll_argument = fold-roll-TypedArg _ _ _ _ _ (of_argument here called) (of_kind here called) (of_place here called) (of_call here called) (of_expression here called)

  roll_kind : (z : node.TypedExprKind-F TypedArg TypedExprKind TypedPlace TypedCall TypedExpr) → kind_meaning here called (roll-TypedExprKind z)
      ≡ of_kind here called (map-TypedExprKind TypedArg TypedExprKind TypedPlace TypedCall TypedExpr (Run Given) (Run ℤ) (Access → Run Location) (Run ℤ) (Run ℤ) (argument_meaning here called) (kind_meaning here called) (place_meaning here called) (call_meaning here called) (expression_meaning here called) z)
  roll_kind = fold-roll-TypedExprKind _ _ _ _ _ (of_argument here called) (of_kind here called) (of_place here called) (of_call here called) (of_expression here called)

  roll_place : (z : node.TypedPlace-F TypedArg TypedExprKind TypedPlace TypedCall TypedExpr) (access : Access) → place_meaning here called (roll-TypedPlace z) access
      ≡ of_place here called (map-TypedPlace TypedArg TypedExprKind TypedPlace TypedCall TypedExpr (Run Given) (Run ℤ) (Access → Run Location) (Run ℤ) (Run ℤ) (argument_meaning here called) (kind_meaning here called) (place_meaning here called) (call_meaning here called) (expression_meaning here called) z) access
  roll_place z access = ap (λ (f : Access → Run Location). f access) (fold-roll-TypedPlace _ _ _ _ _ (of_argument here called) (of_kind here called) (of_place here called) (of_call here called) (of_expression here called) z)

extends-index : (objects : List Object) (table : Table) (turns more object site : ℕ) (index longer : Run ℤ) (access : Access) → Extends index longer
    → Extends (index_meaning (record { objects = objects; table = table; turns = turns }) object site index access) (index_meaning (record { objects = objects; table = table; turns = more }) object site longer access)
unfolding index_meaning
extends-index objects table turns more object site index longer access one = extends-next _ _ _ _ one (λ i. extends-found site _)

extends-indices : (objects : List Object) (table : Table) (turns more object site site2 : ℕ) (first longer second farther : Run ℤ) (access : Access) → Extends first longer → Extends second farther
    → Extends (indices_meaning (record { objects = objects; table = table; turns = turns }) object site first site2 second access) (indices_meaning (record { objects = objects; table = table; turns = more }) object site longer site2 farther access)
unfolding indices_meaning
extends-indices objects table turns more object site site2 first longer second farther access one two =
    extends-next _ _ _ _ one (λ i. extends-next _ _ _ _ (extends-site site _) (λ row. extends-next _ _ _ _ two (λ j. extends-site site2 _)))

module _ (objects : List Object) (table : Table) (turns more : ℕ) (called longer : Called)
    (each : (number : ℕ) (givens : List Given) → Extends (called number givens) (longer number givens)) where
  abbrev here : Setting
  here = record { objects = objects; table = table; turns = turns }

  abbrev there : Setting
  there = record { objects = objects; table = table; turns = more }

  abbrev pub ArgumentExtends : TypedArg → Type 0
  ArgumentExtends arg = Extends (argument_meaning here called arg) (argument_meaning there longer arg)

  abbrev pub KindExtends : TypedExprKind → Type 0
  KindExtends kind = Extends (kind_meaning here called kind) (kind_meaning there longer kind)

  abbrev pub PlaceExtends : TypedPlace → Type 0
  PlaceExtends place = (access : Access) → Extends (place_meaning here called place access) (place_meaning there longer place access)

  abbrev pub CallExtends : TypedCall → Type 0
  CallExtends call = Extends (call_meaning here called call) (call_meaning there longer call)

  abbrev pub ExpressionExtends : TypedExpr → Type 0
  ExpressionExtends e = Extends (expression_meaning here called e) (expression_meaning there longer e)

  module _ (A B C D E : Type 0) (a : A → TypedArg) (b : B → TypedExprKind) (c : C → TypedPlace) (d : D → TypedCall) (e : E → TypedExpr)
      (pa : (x : A) → ArgumentExtends (a x)) (pb : (x : B) → KindExtends (b x)) (pc : (x : C) → PlaceExtends (c x)) (pd : (x : D) → CallExtends (d x)) (pe : (x : E) → ExpressionExtends (e x)) where
    argument_step : (y : node.TypedArg-F A B C D E) → ArgumentExtends (roll-TypedArg (map-TypedArg A B C D E TypedArg TypedExprKind TypedPlace TypedCall TypedExpr a b c d e y))
    unfolding of_argument
    argument_step (node.Value value) = extends-as _ _ _ _ (roll_argument here called _) (roll_argument there longer _) (extends-next _ _ _ _ (pe value) (λ x. extends-gives _))
    argument_step (node.Address at place) = extends-as _ _ _ _ (roll_argument here called _) (roll_argument there longer _) (extends-next _ _ _ _ (pc place Address) (λ to. extends-gives _))

    kind_step : (y : node.TypedExprKind-F A B C D E) → KindExtends (roll-TypedExprKind (map-TypedExprKind A B C D E TypedArg TypedExprKind TypedPlace TypedCall TypedExpr a b c d e y))
    unfolding of_kind
    kind_step (node.Int value) = extends-as _ _ _ _ (roll_kind here called _) (roll_kind there longer _) (extends-gives value)
    kind_step (node.Read place) = extends-as _ _ _ _ (roll_kind here called _) (roll_kind there longer _) (extends-next _ _ _ _ (pc place Element) (λ at. extends-reading _))
    kind_step (node.ReadOverflow word_at) = extends-as _ _ _ _ (roll_kind here called _) (roll_kind there longer _) (extends-reading _)
    kind_step (node.Unary mark mark_at site part) = extends-as _ _ _ _ (roll_kind here called _) (roll_kind there longer _) (extends-next _ _ _ _ (pe part) (extends-unary mark (site_at site)))
    kind_step (node.Binary mark mark_at site left right) = extends-as _ _ _ _ (roll_kind here called _) (roll_kind there longer _) (extends-binary mark (site_at site) _ _ _ _ (pe left) (pe right))
    kind_step (node.Cast width part) = extends-as _ _ _ _ (roll_kind here called _) (roll_kind there longer _) (extends-next _ _ _ _ (pe part) (λ x. extends-gives _))
    kind_step (node.Convert width part) = extends-as _ _ _ _ (roll_kind here called _) (roll_kind there longer _) (extends-next _ _ _ _ (pe part) (λ x. extends-gives _))
    kind_step (node.Choose cond this other) = extends-as _ _ _ _ (roll_kind here called _) (roll_kind there longer _) (extends-choosing _ _ _ _ _ _ (pe cond) (pe this) (pe other))
    kind_step (node.Call call) = extends-as _ _ _ _ (roll_kind here called _) (roll_kind there longer _) (pd call)

    place_step : (y : node.TypedPlace-F A B C D E) → PlaceExtends (roll-TypedPlace (map-TypedPlace A B C D E TypedArg TypedExprKind TypedPlace TypedCall TypedExpr a b c d e y))
    unfolding of_place
    place_step (node.Plain at object) access = extends-as _ _ _ _ (roll_place here called _ access) (roll_place there longer _ access) (extends-reading _)
    place_step (node.Index at object mark_at site index) access = extends-as _ _ _ _ (roll_place here called _ access) (roll_place there longer _ access) (extends-index objects table turns more object (site_at site) _ _ access (pe index))
    place_step (node.Index2 at object first_at first_site first second_at second_site second) access =
        extends-as _ _ _ _ (roll_place here called _ access) (roll_place there longer _ access) (extends-indices objects table turns more object (site_at first_site) (site_at second_site) _ _ _ _ access (pe first) (pe second))
    place_step (node.Deref star_at site at object) access = extends-as _ _ _ _ (roll_place here called _ access) (roll_place there longer _ access) (extends-found (site_at site) _)

    call_step : (y : node.TypedCall-F A B C D E) → CallExtends (record { at = y.at; callee = y.callee; site = y.site; args = map a y.args })
    call_step y =
        extends-as _ _ _ _ (call-is here called _) (call-is there longer _)
        (extends-next _ _ _ _ (extends-gathered (argument_meaning here called) (argument_meaning there longer) a pa [] y.args) (extends-callee objects table turns more called longer each y.callee (site_at y.site)))

    expression_step : (y : node.TypedExpr-F A B C D E) → ExpressionExtends (record { at = y.at; brackets = y.brackets; kind = b y.kind })
    expression_step y = extends-as _ _ _ _ (expression-is here called _) (expression-is there longer _) (pb y.kind)

  -- y is x with what holds of each part beside it
  pub extends-argument : (x : TypedArg) → ArgumentExtends x
  extends-argument = ind-TypedArg ArgumentExtends KindExtends PlaceExtends CallExtends ExpressionExtends
      (λ x y is. subst (λ z. ArgumentExtends (roll-TypedArg z)) is (argument_step _ _ _ _ _ (λ q. q.0) (λ q. q.0) (λ q. q.0) (λ q. q.0) (λ q. q.0) (λ q. q.1) (λ q. q.1) (λ q. q.1) (λ q. q.1) (λ q. q.1) y))
      (λ x y is. subst (λ z. KindExtends (roll-TypedExprKind z)) is (kind_step _ _ _ _ _ (λ q. q.0) (λ q. q.0) (λ q. q.0) (λ q. q.0) (λ q. q.0) (λ q. q.1) (λ q. q.1) (λ q. q.1) (λ q. q.1) (λ q. q.1) y))
      (λ x y is. subst (λ z. PlaceExtends (roll-TypedPlace z)) is (place_step _ _ _ _ _ (λ q. q.0) (λ q. q.0) (λ q. q.0) (λ q. q.0) (λ q. q.0) (λ q. q.1) (λ q. q.1) (λ q. q.1) (λ q. q.1) (λ q. q.1) y))
      (λ x y is. subst (λ z. CallExtends (roll-TypedCall z)) is (call_step _ _ _ _ _ (λ q. q.0) (λ q. q.0) (λ q. q.0) (λ q. q.0) (λ q. q.0) (λ q. q.1) (λ q. q.1) (λ q. q.1) (λ q. q.1) (λ q. q.1) y))
      (λ x y is. subst (λ z. ExpressionExtends (roll-TypedExpr z)) is (expression_step _ _ _ _ _ (λ q. q.0) (λ q. q.0) (λ q. q.0) (λ q. q.0) (λ q. q.0) (λ q. q.1) (λ q. q.1) (λ q. q.1) (λ q. q.1) (λ q. q.1) y))

  pub extends-place : (x : TypedPlace) → PlaceExtends x
  extends-place = ind-TypedPlace ArgumentExtends KindExtends PlaceExtends CallExtends ExpressionExtends
      (λ x y is. subst (λ z. ArgumentExtends (roll-TypedArg z)) is (argument_step _ _ _ _ _ (λ q. q.0) (λ q. q.0) (λ q. q.0) (λ q. q.0) (λ q. q.0) (λ q. q.1) (λ q. q.1) (λ q. q.1) (λ q. q.1) (λ q. q.1) y))
      (λ x y is. subst (λ z. KindExtends (roll-TypedExprKind z)) is (kind_step _ _ _ _ _ (λ q. q.0) (λ q. q.0) (λ q. q.0) (λ q. q.0) (λ q. q.0) (λ q. q.1) (λ q. q.1) (λ q. q.1) (λ q. q.1) (λ q. q.1) y))
      (λ x y is. subst (λ z. PlaceExtends (roll-TypedPlace z)) is (place_step _ _ _ _ _ (λ q. q.0) (λ q. q.0) (λ q. q.0) (λ q. q.0) (λ q. q.0) (λ q. q.1) (λ q. q.1) (λ q. q.1) (λ q. q.1) (λ q. q.1) y))
      (λ x y is. subst (λ z. CallExtends (roll-TypedCall z)) is (call_step _ _ _ _ _ (λ q. q.0) (λ q. q.0) (λ q. q.0) (λ q. q.0) (λ q. q.0) (λ q. q.1) (λ q. q.1) (λ q. q.1) (λ q. q.1) (λ q. q.1) y))
      (λ x y is. subst (λ z. ExpressionExtends (roll-TypedExpr z)) is (expression_step _ _ _ _ _ (λ q. q.0) (λ q. q.0) (λ q. q.0) (λ q. q.0) (λ q. q.0) (λ q. q.1) (λ q. q.1) (λ q. q.1) (λ q. q.1) (λ q. q.1) y))

  pub extends-call : (x : TypedCall) → CallExtends x
  extends-call = ind-TypedCall ArgumentExtends KindExtends PlaceExtends CallExtends ExpressionExtends
      (λ x y is. subst (λ z. ArgumentExtends (roll-TypedArg z)) is (argument_step _ _ _ _ _ (λ q. q.0) (λ q. q.0) (λ q. q.0) (λ q. q.0) (λ q. q.0) (λ q. q.1) (λ q. q.1) (λ q. q.1) (λ q. q.1) (λ q. q.1) y))
      (λ x y is. subst (λ z. KindExtends (roll-TypedExprKind z)) is (kind_step _ _ _ _ _ (λ q. q.0) (λ q. q.0) (λ q. q.0) (λ q. q.0) (λ q. q.0) (λ q. q.1) (λ q. q.1) (λ q. q.1) (λ q. q.1) (λ q. q.1) y))
      (λ x y is. subst (λ z. PlaceExtends (roll-TypedPlace z)) is (place_step _ _ _ _ _ (λ q. q.0) (λ q. q.0) (λ q. q.0) (λ q. q.0) (λ q. q.0) (λ q. q.1) (λ q. q.1) (λ q. q.1) (λ q. q.1) (λ q. q.1) y))
      (λ x y is. subst (λ z. CallExtends (roll-TypedCall z)) is (call_step _ _ _ _ _ (λ q. q.0) (λ q. q.0) (λ q. q.0) (λ q. q.0) (λ q. q.0) (λ q. q.1) (λ q. q.1) (λ q. q.1) (λ q. q.1) (λ q. q.1) y))
      (λ x y is. subst (λ z. ExpressionExtends (roll-TypedExpr z)) is (expression_step _ _ _ _ _ (λ q. q.0) (λ q. q.0) (λ q. q.0) (λ q. q.0) (λ q. q.0) (λ q. q.1) (λ q. q.1) (λ q. q.1) (λ q. q.1) (λ q. q.1) y))

  pub extends-expression : (x : TypedExpr) → ExpressionExtends x
  extends-expression = ind-TypedExpr ArgumentExtends KindExtends PlaceExtends CallExtends ExpressionExtends
      (λ x y is. subst (λ z. ArgumentExtends (roll-TypedArg z)) is (argument_step _ _ _ _ _ (λ q. q.0) (λ q. q.0) (λ q. q.0) (λ q. q.0) (λ q. q.0) (λ q. q.1) (λ q. q.1) (λ q. q.1) (λ q. q.1) (λ q. q.1) y))
      (λ x y is. subst (λ z. KindExtends (roll-TypedExprKind z)) is (kind_step _ _ _ _ _ (λ q. q.0) (λ q. q.0) (λ q. q.0) (λ q. q.0) (λ q. q.0) (λ q. q.1) (λ q. q.1) (λ q. q.1) (λ q. q.1) (λ q. q.1) y))
      (λ x y is. subst (λ z. PlaceExtends (roll-TypedPlace z)) is (place_step _ _ _ _ _ (λ q. q.0) (λ q. q.0) (λ q. q.0) (λ q. q.0) (λ q. q.0) (λ q. q.1) (λ q. q.1) (λ q. q.1) (λ q. q.1) (λ q. q.1) y))
      (λ x y is. subst (λ z. CallExtends (roll-TypedCall z)) is (call_step _ _ _ _ _ (λ q. q.0) (λ q. q.0) (λ q. q.0) (λ q. q.0) (λ q. q.0) (λ q. q.1) (λ q. q.1) (λ q. q.1) (λ q. q.1) (λ q. q.1) y))
      (λ x y is. subst (λ z. ExpressionExtends (roll-TypedExpr z)) is (expression_step _ _ _ _ _ (λ q. q.0) (λ q. q.0) (λ q. q.0) (λ q. q.0) (λ q. q.0) (λ q. q.1) (λ q. q.1) (λ q. q.1) (λ q. q.1) (λ q. q.1) y))
