-- Expressions, places, arguments and calls keep fitting.
use Rattle.std.proofs.Common.{ℕ, Bool, IsTrue, List, [], ◌∷◌, ◌++◌, map, refl, sym, subst, arith}
use Rattle.std.specs.Prelude.{◌&&◌, flat_map}
use Rattle.std.proofs.lemmas.List.Elements.{Contains-append_left, Contains-append_right}
use Rattle.c_typed.specs.declared.call.Callee.{Callee}
use Rattle.c_typed.specs.declared.call.Callee.TheVariants.{Function, Operator, Move16, Move32, Logic16, Logic32, Test, SampleIn, SampleLeft, SampleOut}
use Rattle.c_typed.specs.declared.call.TypedArg.{TypedArg, roll-TypedArg, map-TypedArg}
use Rattle.c_typed.specs.declared.call.TypedArg.TheOpen as node
use Rattle.c_typed.specs.declared.call.TypedArg.TheFolds.{ind-TypedArg, ind-TypedExpr, ind-TypedPlace, ind-TypedCall}
use Rattle.c_typed.specs.declared.call.TypedArg.TheVariants as argument
use Rattle.c_typed.specs.declared.call.TypedCall.{TypedCall, roll-TypedCall, map-TypedCall}
use Rattle.c_typed.specs.declared.expression.TypedExpr.{TypedExpr, roll-TypedExpr, map-TypedExpr}
use Rattle.c_typed.specs.declared.expression.TypedExprKind.{TypedExprKind, roll-TypedExprKind, map-TypedExprKind}
use Rattle.c_typed.specs.declared.expression.TypedExprKind.TheVariants as kind
use Rattle.c_typed.specs.declared.place.TypedPlace.{TypedPlace, roll-TypedPlace, map-TypedPlace}
use Rattle.c_typed.specs.declared.place.TypedPlace.TheVariants as place
use Rattle.called_functions.specs.Called.{called_function, called_in_argument, called_in_kind, called_in_place, called_in_call, called_in_expression}
use Rattle.called_functions.proofs.Equations as calls
use Rattle.tree_agreement.specs.Lawful.{all_hold, is_none, is_one, takes, argument_fits, kind_fits, place_fits, call_fits, expression_fits}
use Rattle.tree_agreement.proofs.LawfulParts as lawful
use Rattle.tree_agreement.proofs.Whole.{both_true}
use Rattle.fitting_calls.specs.Keeping.{Keeps}

pub both : (a b : Bool) → IsTrue a → IsTrue b → IsTrue (a && b)
both a b one other = rw (one, other) refl

module _ (first second : ℕ → Bool) where
  abbrev pub Kept : List ℕ → Type 0
  Kept = Keeps first second

  pub left : (xs ys : List ℕ) → Kept (xs ++ ys) → Kept xs
  left xs ys kept number there = kept number (Contains-append_left xs ys number there)

  pub right : (xs ys : List ℕ) → Kept (xs ++ ys) → Kept ys
  right xs ys kept number there = kept number (Contains-append_right xs ys number there)

  abbrev pub A : TypedArg → Type 0
  A a = IsTrue (argument_fits first a) → Kept (called_in_argument a) → IsTrue (argument_fits second a)

  abbrev pub K : TypedExprKind → Type 0
  K k = IsTrue (kind_fits first k) → Kept (called_in_kind k) → IsTrue (kind_fits second k)

  abbrev pub P : TypedPlace → Type 0
  P p = IsTrue (place_fits first p) → Kept (called_in_place p) → IsTrue (place_fits second p)

  abbrev pub C : TypedCall → Type 0
  C c = IsTrue (call_fits first c) → Kept (called_in_call c) → IsTrue (call_fits second c)

  abbrev pub E : TypedExpr → Type 0
  E e = IsTrue (expression_fits first e) → Kept (called_in_expression e) → IsTrue (expression_fits second e)

  abbrev SA : Type 0
  SA = (a : TypedArg) × A a

  abbrev SK : Type 0
  SK = (k : TypedExprKind) × K k

  abbrev SP : Type 0
  SP = (p : TypedPlace) × P p

  abbrev SC : Type 0
  SC = (c : TypedCall) × C c

  abbrev SE : Type 0
  SE = (e : TypedExpr) × E e

  on_argument : (y : node.TypedArg-F SA SK SP SC SE) → A (roll-TypedArg (map-TypedArg SA SK SP SC SE TypedArg TypedExprKind TypedPlace TypedCall TypedExpr (λ e. e.0) (λ e. e.0) (λ e. e.0) (λ e. e.0) (λ e. e.0) y))
  on_argument (node.Value e) = subst A (sym (argument.rolls-Value e.0)) (λ fits kept. rw lawful.argument-Value (e.1 (rw lawful.argument-Value at fits) (rw calls.argument-Value at kept)))
  on_argument (node.Address at p) = subst A (sym (argument.rolls-Address at p.0)) (λ fits kept. rw lawful.argument-Address (p.1 (rw lawful.argument-Address at fits) (rw calls.argument-Address at kept)))

  on_kind : (y : node.TypedExprKind-F SA SK SP SC SE) → K (roll-TypedExprKind (map-TypedExprKind SA SK SP SC SE TypedArg TypedExprKind TypedPlace TypedCall TypedExpr (λ e. e.0) (λ e. e.0) (λ e. e.0) (λ e. e.0) (λ e. e.0) y))
  on_kind (node.Int value) = subst K (sym (kind.rolls-Int value)) (λ fits kept. rw lawful.kind-Int refl)
  on_kind (node.Read p) = subst K (sym (kind.rolls-Read p.0)) (λ fits kept. rw lawful.kind-Read (p.1 (rw lawful.kind-Read at fits) (rw calls.kind-Read at kept)))
  on_kind (node.ReadOverflow word_at) = subst K (sym (kind.rolls-ReadOverflow word_at)) (λ fits kept. rw lawful.kind-ReadOverflow refl)
  on_kind (node.Unary mark mark_at site part) =
      subst K (sym (kind.rolls-Unary mark mark_at site part.0)) (λ fits kept. rw lawful.kind-Unary (part.1 (rw lawful.kind-Unary at fits) (rw calls.kind-Unary at kept)))
  on_kind (node.Binary mark mark_at site one other) =
      subst K (sym (kind.rolls-Binary mark mark_at site one.0 other.0)) (λ fits kept.
      let all = both_true _ _ (rw lawful.kind-Binary at fits) in let among : Kept (called_in_expression one.0 ++ called_in_expression other.0) = rw calls.kind-Binary at kept in
      rw lawful.kind-Binary (both _ _ (one.1 all.0 (left _ _ among)) (other.1 all.1 (right _ _ among))))
  on_kind (node.Cast width part) =
      subst K (sym (kind.rolls-Cast width part.0)) (λ fits kept. rw lawful.kind-Cast (part.1 (rw lawful.kind-Cast at fits) (rw calls.kind-Cast at kept)))
  on_kind (node.Convert width part) =
      subst K (sym (kind.rolls-Convert width part.0)) (λ fits kept. rw lawful.kind-Convert (part.1 (rw lawful.kind-Convert at fits) (rw calls.kind-Convert at kept)))
  on_kind (node.Choose cond this other) =
      subst K (sym (kind.rolls-Choose cond.0 this.0 other.0)) (λ fits kept.
      let all = both_true _ _ (rw lawful.kind-Choose at fits) in let more = both_true _ _ all.1 in
      let among : Kept (called_in_expression cond.0 ++ called_in_expression this.0 ++ called_in_expression other.0) = rw calls.kind-Choose at kept in
      let before = left _ _ among in
      rw lawful.kind-Choose (both _ _ (cond.1 all.0 (left _ _ before)) (both _ _ (this.1 more.0 (right _ _ before)) (other.1 more.1 (right _ _ among)))))
  on_kind (node.Call call) = subst K (sym (kind.rolls-Call call.0)) (λ fits kept. rw lawful.kind-Call (call.1 (rw lawful.kind-Call at fits) (rw calls.kind-Call at kept)))

  on_place : (y : node.TypedPlace-F SA SK SP SC SE) → P (roll-TypedPlace (map-TypedPlace SA SK SP SC SE TypedArg TypedExprKind TypedPlace TypedCall TypedExpr (λ e. e.0) (λ e. e.0) (λ e. e.0) (λ e. e.0) (λ e. e.0) y))
  on_place (node.Plain at object) = subst P (sym (place.rolls-Plain at object)) (λ fits kept. rw lawful.place-Plain refl)
  on_place (node.Index at object mark_at site index) =
      subst P (sym (place.rolls-Index at object mark_at site index.0)) (λ fits kept. rw lawful.place-Index (index.1 (rw lawful.place-Index at fits) (rw calls.place-Index at kept)))
  on_place (node.Index2 at object row_at row_site row column_at column_site column) =
      subst P (sym (place.rolls-Index2 at object row_at row_site row.0 column_at column_site column.0)) (λ fits kept.
      let all = both_true _ _ (rw lawful.place-Index2 at fits) in let among : Kept (called_in_expression row.0 ++ called_in_expression column.0) = rw calls.place-Index2 at kept in
      rw lawful.place-Index2 (both _ _ (row.1 all.0 (left _ _ among)) (column.1 all.1 (right _ _ among))))
  on_place (node.Deref star_at site at object) = subst P (sym (place.rolls-Deref star_at site at object)) (λ fits kept. rw lawful.place-Deref refl)

  -- ---- calls

  -- all that hold, still hold
  on_arguments : (ys : List SA) → IsTrue (all_hold (map (argument_fits first) (map (λ (e : SA). e.0) ys))) → Kept (flat_map called_in_argument (map (λ (e : SA). e.0) ys))
      → IsTrue (all_hold (map (argument_fits second) (map (λ (e : SA). e.0) ys)))
  on_arguments [] fits kept = refl
  on_arguments (y ∷ ys) fits kept =
      let all = both_true _ _ fits in both _ _ (y.1 all.0 (left _ _ kept)) (on_arguments ys all.1 (right _ _ kept))

  none_still : (args : List TypedArg) → IsTrue (is_none (map (argument_fits first) args)) → IsTrue (is_none (map (argument_fits second) args))
  none_still [] none = none
  none_still (a ∷ args) none = none

  one_still : (args : List TypedArg) → IsTrue (is_one (map (argument_fits first) args)) → IsTrue (is_one (map (argument_fits second) args))
  one_still [] one = one
  one_still (a ∷ args) one = none_still args one

  takes_still : (callee : Callee) (args : List TypedArg) → IsTrue (takes first callee (map (argument_fits first) args)) → Kept (called_function callee)
      → IsTrue (takes second callee (map (argument_fits second) args))
  takes_still (Function number) args takes kept = kept number (0, omega arith, refl) takes
  takes_still (Operator op) args takes kept = refl
  takes_still SampleOut args takes kept = one_still args takes
  takes_still Move16 args takes kept = none_still args takes
  takes_still Move32 args takes kept = none_still args takes
  takes_still Logic16 args takes kept = none_still args takes
  takes_still Logic32 args takes kept = none_still args takes
  takes_still Test args takes kept = none_still args takes
  takes_still SampleIn args takes kept = none_still args takes
  takes_still SampleLeft args takes kept = none_still args takes

  on_call : (y : node.TypedCall-F SA SK SP SC SE) → C (roll-TypedCall (map-TypedCall SA SK SP SC SE TypedArg TypedExprKind TypedPlace TypedCall TypedExpr (λ e. e.0) (λ e. e.0) (λ e. e.0) (λ e. e.0) (λ e. e.0) y))
  on_call y fits kept =
      let all = both_true _ _ (rw lawful.call-is at fits) in
      let among : Kept (called_function y.callee ++ flat_map called_in_argument (map (λ (e : SA). e.0) y.args)) = rw calls.call-is at kept in
      rw lawful.call-is (both _ _ (takes_still y.callee (map (λ (e : SA). e.0) y.args) all.0 (left _ _ among)) (on_arguments y.args all.1 (right _ _ among)))

  on_expression : (y : node.TypedExpr-F SA SK SP SC SE) → E (roll-TypedExpr (map-TypedExpr SA SK SP SC SE TypedArg TypedExprKind TypedPlace TypedCall TypedExpr (λ e. e.0) (λ e. e.0) (λ e. e.0) (λ e. e.0) (λ e. e.0) y))
  on_expression y fits kept = rw lawful.expression-is (y.kind.1 (rw lawful.expression-is at fits) (rw calls.expression-is at kept))

  pub argument_keeps : (a : TypedArg) → A a
  argument_keeps =
      ind-TypedArg A K P C E
      (λ x y is. subst (λ z. A (roll-TypedArg z)) is (on_argument y))
      (λ x y is. subst (λ z. K (roll-TypedExprKind z)) is (on_kind y))
      (λ x y is. subst (λ z. P (roll-TypedPlace z)) is (on_place y))
      (λ x y is. subst (λ z. C (roll-TypedCall z)) is (on_call y))
      (λ x y is. subst (λ z. E (roll-TypedExpr z)) is (on_expression y))

  pub place_keeps : (p : TypedPlace) → P p
  place_keeps =
      ind-TypedPlace A K P C E
      (λ x y is. subst (λ z. A (roll-TypedArg z)) is (on_argument y))
      (λ x y is. subst (λ z. K (roll-TypedExprKind z)) is (on_kind y))
      (λ x y is. subst (λ z. P (roll-TypedPlace z)) is (on_place y))
      (λ x y is. subst (λ z. C (roll-TypedCall z)) is (on_call y))
      (λ x y is. subst (λ z. E (roll-TypedExpr z)) is (on_expression y))

  pub call_keeps : (c : TypedCall) → C c
  call_keeps =
      ind-TypedCall A K P C E
      (λ x y is. subst (λ z. A (roll-TypedArg z)) is (on_argument y))
      (λ x y is. subst (λ z. K (roll-TypedExprKind z)) is (on_kind y))
      (λ x y is. subst (λ z. P (roll-TypedPlace z)) is (on_place y))
      (λ x y is. subst (λ z. C (roll-TypedCall z)) is (on_call y))
      (λ x y is. subst (λ z. E (roll-TypedExpr z)) is (on_expression y))

  pub expression_keeps : (e : TypedExpr) → E e
  expression_keeps =
      ind-TypedExpr A K P C E
      (λ x y is. subst (λ z. A (roll-TypedArg z)) is (on_argument y))
      (λ x y is. subst (λ z. K (roll-TypedExprKind z)) is (on_kind y))
      (λ x y is. subst (λ z. P (roll-TypedPlace z)) is (on_place y))
      (λ x y is. subst (λ z. C (roll-TypedCall z)) is (on_call y))
      (λ x y is. subst (λ z. E (roll-TypedExpr z)) is (on_expression y))
