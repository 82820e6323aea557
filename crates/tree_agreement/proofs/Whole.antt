-- All parts of expressions at once, by induction over them.
use Rattle.std.proofs.Common.{ℕ, Bool, true, false, IsTrue, List, [], ◌∷◌, map, refl, sym, subst}
use Rattle.std.specs.Prelude.{◌&&◌}
use Rattle.c_typed.specs.declared.call.TypedArg.{TypedArg, roll-TypedArg, map-TypedArg}
use Rattle.c_typed.specs.declared.call.TypedArg.TheOpen as node
use Rattle.c_typed.specs.declared.call.TypedArg.TheFolds.{ind-TypedArg, ind-TypedExpr, ind-TypedPlace, ind-TypedCall}
use Rattle.c_typed.specs.declared.call.TypedArg.TheVariants as argument
use Rattle.c_typed.specs.declared.call.TypedCall.{TypedCall, roll-TypedCall, map-TypedCall}
use Rattle.c_typed.specs.declared.expression.TypedExpr.{TypedExpr, roll-TypedExpr, map-TypedExpr}
use Rattle.c_typed.specs.declared.expression.TypedExprKind.{TypedExprKind, roll-TypedExprKind, map-TypedExprKind}
use Rattle.c_typed.specs.declared.expression.TypedExprKind.TheVariants as kind
use Rattle.c_typed.specs.declared.place.TypedPlace.{TypedPlace, roll-TypedPlace, map-TypedPlace}
use Rattle.c_typed.specs.declared.place.TypedPlace.TheVariants as place
use Rattle.typed_meaning.specs.Expressions.{Setting, Called, site_at, argument_meaning}
use Rattle.typed_meaning.proofs.Expressions as source
use Rattle.source_trees.specs.Expressions.{argument_tree}
use Rattle.source_trees.proofs.Expressions as built
use Rattle.tree_agreement.specs.Lawful.{all_hold, argument_fits}
use Rattle.tree_agreement.specs.Agreement.{Renumbers, trees_for, ArgumentAgrees, KindAgrees, PlaceAgrees, CallAgrees, ExpressionAgrees}
use Rattle.tree_agreement.proofs.LawfulParts as lawful
use Rattle.tree_agreement.proofs.Agree as one
use Rattle.tree_agreement.proofs.Calls.{GiveArguments, none, next, not_so, called_same}

pub both_true : (a b : Bool) → IsTrue (a && b) → IsTrue a × IsTrue b
both_true true b right = (refl, right)
both_true false b right = absurd (not_so right)

module _ (here : Setting) (numbers : List ℕ) (called tree_called : Called) (defined : ℕ → Bool) (renumbers : Renumbers defined numbers called tree_called) where
  abbrev A : TypedArg → Type 0
  A = ArgumentAgrees here numbers called tree_called defined

  abbrev K : TypedExprKind → Type 0
  K = KindAgrees here numbers called tree_called defined

  abbrev P : TypedPlace → Type 0
  P = PlaceAgrees here numbers called tree_called defined

  abbrev C : TypedCall → Type 0
  C = CallAgrees here numbers called tree_called defined

  abbrev E : TypedExpr → Type 0
  E = ExpressionAgrees here numbers called tree_called defined

  abbrev SA : Type 0
  SA = (a : TypedArg) × A a

  abbrev SK : Type 0
  SK = (k : TypedExprKind) × K k

  abbrev SP : Type 0
  SP = (p : TypedPlace) × P p

  abbrev SC : Type 0
  SC = (c : TypedCall) × C c

  abbrev SE : Type 0
  SE = (e : TypedExpr) × E e

  on_argument : (y : node.TypedArg-F SA SK SP SC SE) → A (roll-TypedArg (map-TypedArg SA SK SP SC SE TypedArg TypedExprKind TypedPlace TypedCall TypedExpr (λ e. e.0) (λ e. e.0) (λ e. e.0) (λ e. e.0) (λ e. e.0) y))
  on_argument (node.Value e) =
      subst A (sym (argument.rolls-Value e.0)) (λ fits. one.agree-Value here numbers called tree_called defined e.0 (e.1 (rw lawful.argument-Value at fits)))
  on_argument (node.Address at p) =
      subst A (sym (argument.rolls-Address at p.0)) (λ fits. one.agree-Address here numbers called tree_called defined at p.0 (p.1 (rw lawful.argument-Address at fits)))

  on_kind : (y : node.TypedExprKind-F SA SK SP SC SE) → K (roll-TypedExprKind (map-TypedExprKind SA SK SP SC SE TypedArg TypedExprKind TypedPlace TypedCall TypedExpr (λ e. e.0) (λ e. e.0) (λ e. e.0) (λ e. e.0) (λ e. e.0) y))
  on_kind (node.Int value) =
      subst K (sym (kind.rolls-Int value)) (λ fits. one.agree-Int here numbers called tree_called defined value)
  on_kind (node.Read p) =
      subst K (sym (kind.rolls-Read p.0)) (λ fits. one.agree-Read here numbers called tree_called defined p.0 (p.1 (rw lawful.kind-Read at fits)))
  on_kind (node.ReadOverflow word_at) =
      subst K (sym (kind.rolls-ReadOverflow word_at)) (λ fits. one.agree-ReadOverflow here numbers called tree_called defined word_at)
  on_kind (node.Unary mark mark_at site part) =
      subst K (sym (kind.rolls-Unary mark mark_at site part.0)) (λ fits. one.agree-Unary here numbers called tree_called defined mark mark_at site part.0 (part.1 (rw lawful.kind-Unary at fits)))
  on_kind (node.Binary mark mark_at site left right) =
      subst K (sym (kind.rolls-Binary mark mark_at site left.0 right.0)) (λ fits. let right_too = both_true _ _ (rw lawful.kind-Binary at fits) in one.agree-Binary here numbers called tree_called defined mark mark_at site left.0 right.0 (left.1 right_too.0) (right.1 right_too.1))
  on_kind (node.Cast width part) =
      subst K (sym (kind.rolls-Cast width part.0)) (λ fits. one.agree-Cast here numbers called tree_called defined width part.0 (part.1 (rw lawful.kind-Cast at fits)))
  on_kind (node.Convert width part) =
      subst K (sym (kind.rolls-Convert width part.0)) (λ fits. one.agree-Convert here numbers called tree_called defined width part.0 (part.1 (rw lawful.kind-Convert at fits)))
  on_kind (node.Choose cond this other) =
      subst K (sym (kind.rolls-Choose cond.0 this.0 other.0)) (λ fits. let three = both_true _ _ (rw lawful.kind-Choose at fits) in let two = both_true _ _ three.1 in one.agree-Choose here numbers called tree_called defined cond.0 this.0 other.0 (cond.1 three.0) (this.1 two.0) (other.1 two.1))
  on_kind (node.Call call) =
      subst K (sym (kind.rolls-Call call.0)) (λ fits. one.agree-Call here numbers called tree_called defined call.0 (call.1 (rw lawful.kind-Call at fits)))

  on_place : (y : node.TypedPlace-F SA SK SP SC SE) → P (roll-TypedPlace (map-TypedPlace SA SK SP SC SE TypedArg TypedExprKind TypedPlace TypedCall TypedExpr (λ e. e.0) (λ e. e.0) (λ e. e.0) (λ e. e.0) (λ e. e.0) y))
  on_place (node.Plain at object) = subst P (sym (place.rolls-Plain at object)) (λ fits. one.agree-Plain here numbers called tree_called defined at object)
  on_place (node.Index at object mark_at site index) =
      subst P (sym (place.rolls-Index at object mark_at site index.0)) (λ fits. one.agree-Index here numbers called tree_called defined at object mark_at site index.0 (index.1 (rw lawful.place-Index at fits)))
  on_place (node.Index2 at object first_at first_site first second_at second_site second) =
      subst P (sym (place.rolls-Index2 at object first_at first_site first.0 second_at second_site second.0)) (λ fits. let right = both_true _ _ (rw lawful.place-Index2 at fits) in
      one.agree-Index2 here numbers called tree_called defined at object first_at first_site first.0 second_at second_site second.0 (first.1 right.0) (second.1 right.1))
  on_place (node.Deref star_at site at object) = subst P (sym (place.rolls-Deref star_at site at object)) (λ fits. one.agree-Deref here numbers called tree_called defined star_at site at object)

  on_arguments : (ys : List SA) → IsTrue (all_hold (map (argument_fits defined) (map (λ (e : SA). e.0) ys)))
      → GiveArguments here numbers called tree_called defined (map (argument_tree (trees_for here numbers)) (map (λ (e : SA). e.0) ys)) (map (argument_meaning here called) (map (λ (e : SA). e.0) ys)) (map (argument_fits defined) (map (λ (e : SA). e.0) ys))
  on_arguments [] fits = none
  on_arguments (y ∷ ys) fits = let right = both_true _ _ fits in next (y.1 right.0) (on_arguments ys right.1)

  on_call : (y : node.TypedCall-F SA SK SP SC SE) → C (roll-TypedCall (map-TypedCall SA SK SP SC SE TypedArg TypedExprKind TypedPlace TypedCall TypedExpr (λ e. e.0) (λ e. e.0) (λ e. e.0) (λ e. e.0) (λ e. e.0) y))
  on_call y fits =
      let right = both_true _ _ (rw lawful.call-is at fits) in
      rw (built.call-is, source.call-is) (called_same here numbers called tree_called defined renumbers y.callee (site_at y.site) _ _ _ (on_arguments y.args right.1) right.0)

  on_expression : (y : node.TypedExpr-F SA SK SP SC SE) → E (roll-TypedExpr (map-TypedExpr SA SK SP SC SE TypedArg TypedExprKind TypedPlace TypedCall TypedExpr (λ e. e.0) (λ e. e.0) (λ e. e.0) (λ e. e.0) (λ e. e.0) y))
  on_expression y fits =
      one.agree-expression here numbers called tree_called defined (roll-TypedExpr (map-TypedExpr SA SK SP SC SE TypedArg TypedExprKind TypedPlace TypedCall TypedExpr (λ e. e.0) (λ e. e.0) (λ e. e.0) (λ e. e.0) (λ e. e.0) y)) (y.kind.1 (rw lawful.expression-is at fits))

  pub argument_agrees : (a : TypedArg) → A a
  argument_agrees =
      ind-TypedArg A K P C E
      (λ x y is. subst (λ z. A (roll-TypedArg z)) is (on_argument y))
      (λ x y is. subst (λ z. K (roll-TypedExprKind z)) is (on_kind y))
      (λ x y is. subst (λ z. P (roll-TypedPlace z)) is (on_place y))
      (λ x y is. subst (λ z. C (roll-TypedCall z)) is (on_call y))
      (λ x y is. subst (λ z. E (roll-TypedExpr z)) is (on_expression y))

  pub place_agrees : (p : TypedPlace) → P p
  place_agrees =
      ind-TypedPlace A K P C E
      (λ x y is. subst (λ z. A (roll-TypedArg z)) is (on_argument y))
      (λ x y is. subst (λ z. K (roll-TypedExprKind z)) is (on_kind y))
      (λ x y is. subst (λ z. P (roll-TypedPlace z)) is (on_place y))
      (λ x y is. subst (λ z. C (roll-TypedCall z)) is (on_call y))
      (λ x y is. subst (λ z. E (roll-TypedExpr z)) is (on_expression y))

  pub call_agrees : (c : TypedCall) → C c
  call_agrees =
      ind-TypedCall A K P C E
      (λ x y is. subst (λ z. A (roll-TypedArg z)) is (on_argument y))
      (λ x y is. subst (λ z. K (roll-TypedExprKind z)) is (on_kind y))
      (λ x y is. subst (λ z. P (roll-TypedPlace z)) is (on_place y))
      (λ x y is. subst (λ z. C (roll-TypedCall z)) is (on_call y))
      (λ x y is. subst (λ z. E (roll-TypedExpr z)) is (on_expression y))

  pub expression_agrees : (e : TypedExpr) → E e
  expression_agrees =
      ind-TypedExpr A K P C E
      (λ x y is. subst (λ z. A (roll-TypedArg z)) is (on_argument y))
      (λ x y is. subst (λ z. K (roll-TypedExprKind z)) is (on_kind y))
      (λ x y is. subst (λ z. P (roll-TypedPlace z)) is (on_place y))
      (λ x y is. subst (λ z. C (roll-TypedCall z)) is (on_call y))
      (λ x y is. subst (λ z. E (roll-TypedExpr z)) is (on_expression y))
