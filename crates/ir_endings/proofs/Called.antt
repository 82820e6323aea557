-- What is called by the things that stand in an expression is what that calls: an induction over the expression.
use Rattle.std.proofs.Common.{◌≡◌, ℕ, ◌+◌, List, [], ◌∷◌, ◌++◌, Bool, true, map, refl, sym, ap, ◌∙◌, subst, append_assoc}
use Rattle.std.proofs.lemmas.List.Concat.{flat_map-append}
use Rattle.std.specs.Prelude.{ℤ, flat_map, Option, None}
use Rattle.sat_base.specs.declared.name.At.{At}
use Rattle.sat_base.specs.declared.width.Width.{Width}
use Rattle.c_typed.specs.declared.call.Callee.{Callee}
use Rattle.c_typed.specs.declared.call.Callee.TheVariants.{Function}
use Rattle.c_typed.specs.declared.call.TypedArg.{TypedArg}
use Rattle.c_typed.specs.declared.call.TypedArg.TheOpen as node
use Rattle.c_typed.specs.declared.call.TypedArg.TheViews.{roll-TypedArg, roll-TypedExprKind, roll-TypedPlace}
use Rattle.c_typed.specs.declared.call.TypedArg.TheFolds.{map-TypedArg, map-TypedExprKind, map-TypedPlace, fold-roll-TypedArg, fold-roll-TypedExprKind, fold-roll-TypedPlace, ind-TypedArg, ind-TypedPlace, ind-TypedCall, ind-TypedExpr}
use Rattle.c_typed.specs.declared.call.TypedCall.{TypedCall, roll-TypedCall}
use Rattle.c_typed.specs.declared.expression.TypedExpr.{TypedExpr, roll-TypedExpr}
use Rattle.c_typed.specs.declared.expression.TypedExprKind.{TypedExprKind}
use Rattle.c_typed.specs.declared.place.TypedPlace.{TypedPlace}
use Rattle.c_typed.specs.declared.typed.Typed.{Typed}
use Rattle.called_functions.specs.Called.{called_in_argument, called_in_kind, called_in_place, called_in_call, called_in_expression, of_argument as argument_calls, of_kind as kind_calls, of_place as place_calls, of_call as call_calls, of_expression as expression_calls}
use Rattle.called_functions.proofs.Equations as called
use Rattle.lawful_sources.specs.Expressions.{Look, Argued, Placed, Calling, argued_from, of_argument, of_kind, of_place, of_call, argument_look, kind_look, in_place, in_call, in_expression, in_argument}
use Rattle.lawful_sources.specs.Things.{Taken, Use, Read, Given, Thing, Call, Constant, taken_at}
use Rattle.lawful_sources.proofs.Passing.{roll_argument, roll_kind, roll_place, call-is, expression-is}
use Rattle.lawful_ir.specs.Lawful.{called_number}

-- these things call these functions, in their order
pub record CallThese (things : List Thing) (numbers : List ℕ) : Type 0 where
  pub are : flat_map called_number things ≡ numbers

pub call-none : CallThese [] []
call-none = record { are = refl }

pub call-along : (things others : List Thing) (ns ms : List ℕ) → CallThese things ns → CallThese others ms → CallThese (things ++ others) (ns ++ ms)
call-along things others ns ms p q = record { are = flat_map-append called_number things others ∙ rw (p.are, q.are) refl }

-- a thing that is no call of a function
pub call-later : (x : Thing) (things : List Thing) (ns : List ℕ) → called_number x ≡ [] → CallThese things ns → CallThese (x ∷ things) ns
call-later x things ns none p = record { are = ap (λ l. l ++ flat_map called_number things) none ∙ p.are }

-- in other brackets
pub call-three : (ns ms ks : List ℕ) (things : List Thing) → CallThese things (ns ++ (ms ++ ks)) → CallThese things (ns ++ ms ++ ks)
call-three ns ms ks things p = subst (CallThese things) (sym (append_assoc ns ms ks)) p

constants-call : (values : List ℤ) → CallThese (map Constant values) []
constants-call [] = call-none
constants-call (value ∷ values) = call-later (Constant value) _ [] refl (constants-call values)

-- what is called itself, and then what its arguments call
itself : (callee : Callee) (at : At) (site : Option ℕ) (args : List TypedArg) (count : ℕ) (is_needed : Bool) → flat_map called_number (Call callee count is_needed ∷ []) ++ flat_map called_in_argument args
    ≡ called_in_call (record { at = at; callee = callee; site = site; args = args })
itself (Function number) at site args count is_needed = sym (called.call-is _)
itself callee at site args count is_needed = sym (called.call-is _)

module _ (source : Typed) where
  abbrev A : TypedArg → Type 0
  A x = (taken : Option Taken) → CallThese (in_argument source x taken) (called_in_argument x)

  abbrev K : TypedExprKind → Type 0
  K x = (due : Option Width) → CallThese ((kind_look source x).stands due) (called_in_kind x)

  abbrev P : TypedPlace → Type 0
  P x = (aim : Use) → CallThese (in_place source x aim) (called_in_place x)

  abbrev C : TypedCall → Type 0
  C x = (is_needed : Bool) → CallThese (in_call source x is_needed) (called_in_call x)

  abbrev E : TypedExpr → Type 0
  E x = (due : Option Width) → CallThese (in_expression source x due) (called_in_expression x)

  abbrev SA : Type 0
  SA = (x : TypedArg) × A x

  abbrev SK : Type 0
  SK = (x : TypedExprKind) × K x

  abbrev SP : Type 0
  SP = (x : TypedPlace) × P x

  abbrev SC : Type 0
  SC = (x : TypedCall) × C x

  abbrev SE : Type 0
  SE = (x : TypedExpr) × E x

  argument-by : (x : TypedArg) (look : Argued) (numbers : List ℕ) → argument_look source x ≡ look → called_in_argument x ≡ numbers → ((taken : Option Taken) → CallThese (look.stands taken) numbers) → A x
  argument-by x look numbers is same f taken = subst (λ (l : Argued). CallThese (l.stands taken) (called_in_argument x)) (sym is) (subst (CallThese (look.stands taken)) (sym same) (f taken))

  kind-by : (x : TypedExprKind) (look : Look) (numbers : List ℕ) → kind_look source x ≡ look → called_in_kind x ≡ numbers → ((due : Option Width) → CallThese (look.stands due) numbers) → K x
  kind-by x look numbers is same f due = subst (λ (l : Look). CallThese (l.stands due) (called_in_kind x)) (sym is) (subst (CallThese (look.stands due)) (sym same) (f due))

  place-by : (x : TypedPlace) (placed : Placed) (numbers : List ℕ) → in_place source x ≡ placed → called_in_place x ≡ numbers → ((aim : Use) → CallThese (placed aim) numbers) → P x
  place-by x placed numbers is same f aim = subst (λ (w : Placed). CallThese (w aim) (called_in_place x)) (sym is) (subst (CallThese (placed aim)) (sym same) (f aim))

  argument_calls_are : (z : node.TypedArg-F TypedArg TypedExprKind TypedPlace TypedCall TypedExpr) → called_in_argument (roll-TypedArg z)
      ≡ argument_calls (map-TypedArg TypedArg TypedExprKind TypedPlace TypedCall TypedExpr (List ℕ) (List ℕ) (List ℕ) (List ℕ) (List ℕ) called_in_argument called_in_kind called_in_place called_in_call called_in_expression z)
  argument_calls_are = fold-roll-TypedArg _ _ _ _ _ argument_calls kind_calls place_calls call_calls expression_calls

  kind_calls_are : (z : node.TypedExprKind-F TypedArg TypedExprKind TypedPlace TypedCall TypedExpr) → called_in_kind (roll-TypedExprKind z)
      ≡ kind_calls (map-TypedExprKind TypedArg TypedExprKind TypedPlace TypedCall TypedExpr (List ℕ) (List ℕ) (List ℕ) (List ℕ) (List ℕ) called_in_argument called_in_kind called_in_place called_in_call called_in_expression z)
  kind_calls_are = fold-roll-TypedExprKind _ _ _ _ _ argument_calls kind_calls place_calls call_calls expression_calls

  place_calls_are : (z : node.TypedPlace-F TypedArg TypedExprKind TypedPlace TypedCall TypedExpr) → called_in_place (roll-TypedPlace z)
      ≡ place_calls (map-TypedPlace TypedArg TypedExprKind TypedPlace TypedCall TypedExpr (List ℕ) (List ℕ) (List ℕ) (List ℕ) (List ℕ) called_in_argument called_in_kind called_in_place called_in_call called_in_expression z)
  place_calls_are = fold-roll-TypedPlace _ _ _ _ _ argument_calls kind_calls place_calls call_calls expression_calls

  -- ---- the induction

  on_argument : (y : node.TypedArg-F SA SK SP SC SE) → A (roll-TypedArg (map-TypedArg SA SK SP SC SE TypedArg TypedExprKind TypedPlace TypedCall TypedExpr (λ q. q.0) (λ q. q.0) (λ q. q.0) (λ q. q.0) (λ q. q.0) y))
  unfolding of_argument argument_calls
  on_argument (node.Value value) = argument-by _ _ _ (roll_argument source _) (argument_calls_are _) (λ taken. call-later _ _ _ refl (value.1 _))
  on_argument (node.Address at place) = argument-by _ _ _ (roll_argument source _) (argument_calls_are _) (λ taken. call-later _ _ _ refl (place.1 (Given taken)))

  on_kind : (y : node.TypedExprKind-F SA SK SP SC SE) → K (roll-TypedExprKind (map-TypedExprKind SA SK SP SC SE TypedArg TypedExprKind TypedPlace TypedCall TypedExpr (λ q. q.0) (λ q. q.0) (λ q. q.0) (λ q. q.0) (λ q. q.0) y))
  unfolding of_kind kind_calls
  on_kind (node.Int value) = kind-by _ _ _ (roll_kind source _) (kind_calls_are _) (λ due. call-later _ _ _ refl call-none)
  on_kind (node.Read place) = kind-by _ _ _ (roll_kind source _) (kind_calls_are _) (λ due. call-later _ _ _ refl (place.1 Read))
  on_kind (node.ReadOverflow word_at) = kind-by _ _ _ (roll_kind source _) (kind_calls_are _) (λ due. call-later _ _ _ refl call-none)
  on_kind (node.Unary mark mark_at site part) = kind-by _ _ _ (roll_kind source _) (kind_calls_are _) (λ due. call-later _ _ _ refl (call-later _ _ _ refl (part.1 None)))
  on_kind (node.Binary mark mark_at site one other) = kind-by _ _ _ (roll_kind source _) (kind_calls_are _) (λ due.
      call-later _ _ _ refl (call-along _ _ _ _ (one.1 None) (call-later _ _ _ refl (call-along _ _ [] _ (constants-call _) (other.1 None)))))
  on_kind (node.Cast width part) = kind-by _ _ _ (roll_kind source _) (kind_calls_are _) (λ due. call-later _ _ _ refl (part.1 None))
  on_kind (node.Convert width part) = kind-by _ _ _ (roll_kind source _) (kind_calls_are _) (λ due. call-later _ _ _ refl (part.1 None))
  on_kind (node.Choose cond one other) = kind-by _ _ _ (roll_kind source _) (kind_calls_are _) (λ due.
      call-later _ _ _ refl (call-three (called_in_expression cond.0) (called_in_expression one.0) (called_in_expression other.0) _ (call-along _ _ _ _ (cond.1 None) (call-along _ _ _ _ (one.1 None) (other.1 None)))))
  on_kind (node.Call call) = kind-by _ _ _ (roll_kind source _) (kind_calls_are _) (λ due. call-later _ _ _ refl (call.1 true))

  on_place : (y : node.TypedPlace-F SA SK SP SC SE) → P (roll-TypedPlace (map-TypedPlace SA SK SP SC SE TypedArg TypedExprKind TypedPlace TypedCall TypedExpr (λ q. q.0) (λ q. q.0) (λ q. q.0) (λ q. q.0) (λ q. q.0) y))
  unfolding of_place place_calls
  on_place (node.Plain at object) = place-by _ _ _ (roll_place source _) (place_calls_are _) (λ aim. call-later _ _ _ refl call-none)
  on_place (node.Index at object mark_at site index) = place-by _ _ _ (roll_place source _) (place_calls_are _) (λ aim. call-later _ _ _ refl (call-later _ _ _ refl (index.1 None)))
  on_place (node.Index2 at object first_at first_site first second_at second_site second) = place-by _ _ _ (roll_place source _) (place_calls_are _) (λ aim.
      call-later _ _ _ refl (call-later _ _ _ refl (call-along _ _ _ _ (first.1 None) (call-later _ _ _ refl (second.1 None)))))
  on_place (node.Deref star_at site at object) = place-by _ _ _ (roll_place source _) (place_calls_are _) (λ aim. call-later _ _ _ refl (call-later _ _ _ refl call-none))

  arguments-call : (callee : Callee) (place : ℕ) (ys : List SA) → CallThese (argued_from source callee place (map (argument_look source) (map (λ (q : SA). q.0) ys))) (flat_map called_in_argument (map (λ (q : SA). q.0) ys))
  arguments-call callee place [] = call-none
  arguments-call callee place (y ∷ ys) = call-along _ _ _ _ (y.1 (taken_at source callee place)) (arguments-call callee (place + 1) ys)

  on_call : (y : node.TypedCall-F SA SK SP SC SE) → C (record { at = y.at; callee = y.callee; site = y.site; args = map (λ (q : SA). q.0) y.args })
  unfolding of_call
  on_call y is_needed =
      let call : TypedCall = record { at = y.at; callee = y.callee; site = y.site; args = map (λ (q : SA). q.0) y.args } in
      let all = call-along (Call y.callee _ is_needed ∷ []) _ _ _ (record { are = refl }) (call-later _ _ _ refl (arguments-call y.callee 0 y.args)) in
      subst (λ (w : Calling). CallThese (w is_needed) (called_in_call call)) (sym (call-is source call))
      (subst (CallThese _) (itself y.callee y.at y.site call.args _ is_needed) all)

  on_expression : (y : node.TypedExpr-F SA SK SP SC SE) → E (record { at = y.at; brackets = y.brackets; kind = y.kind.0 })
  on_expression y due =
      let e : TypedExpr = record { at = y.at; brackets = y.brackets; kind = y.kind.0 } in
      subst (λ (l : Look). CallThese (l.stands due) (called_in_expression e)) (sym (expression-is source e)) (subst (CallThese _) (sym (called.expression-is e)) (y.kind.1 due))

  pub argument-calls : (x : TypedArg) → A x
  argument-calls = ind-TypedArg A K P C E
      (λ x y is. subst (λ z. A (roll-TypedArg z)) is (on_argument y))
      (λ x y is. subst (λ z. K (roll-TypedExprKind z)) is (on_kind y))
      (λ x y is. subst (λ z. P (roll-TypedPlace z)) is (on_place y))
      (λ x y is. subst (λ z. C (roll-TypedCall z)) is (on_call y))
      (λ x y is. subst (λ z. E (roll-TypedExpr z)) is (on_expression y))

  pub place-calls : (x : TypedPlace) → P x
  place-calls = ind-TypedPlace A K P C E
      (λ x y is. subst (λ z. A (roll-TypedArg z)) is (on_argument y))
      (λ x y is. subst (λ z. K (roll-TypedExprKind z)) is (on_kind y))
      (λ x y is. subst (λ z. P (roll-TypedPlace z)) is (on_place y))
      (λ x y is. subst (λ z. C (roll-TypedCall z)) is (on_call y))
      (λ x y is. subst (λ z. E (roll-TypedExpr z)) is (on_expression y))

  pub call-calls : (x : TypedCall) → C x
  call-calls = ind-TypedCall A K P C E
      (λ x y is. subst (λ z. A (roll-TypedArg z)) is (on_argument y))
      (λ x y is. subst (λ z. K (roll-TypedExprKind z)) is (on_kind y))
      (λ x y is. subst (λ z. P (roll-TypedPlace z)) is (on_place y))
      (λ x y is. subst (λ z. C (roll-TypedCall z)) is (on_call y))
      (λ x y is. subst (λ z. E (roll-TypedExpr z)) is (on_expression y))

  pub expression-calls : (x : TypedExpr) → E x
  expression-calls = ind-TypedExpr A K P C E
      (λ x y is. subst (λ z. A (roll-TypedArg z)) is (on_argument y))
      (λ x y is. subst (λ z. K (roll-TypedExprKind z)) is (on_kind y))
      (λ x y is. subst (λ z. P (roll-TypedPlace z)) is (on_place y))
      (λ x y is. subst (λ z. C (roll-TypedCall z)) is (on_call y))
      (λ x y is. subst (λ z. E (roll-TypedExpr z)) is (on_expression y))
