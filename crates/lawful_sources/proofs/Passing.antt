-- A test that passes all that may stand in an expression passes all that stands in one: an induction over the tree.
use Rattle.std.proofs.Common.{◌≡◌, ℕ, ◌+◌, List, [], ◌∷◌, ◌++◌, Bool, true, false, map, refl, sym, ◌∙◌, subst}
use Rattle.std.specs.Prelude.{ℤ, Option, Some, None}
use Rattle.std.specs.List.{list_all}
use Rattle.std.proofs.lemmas.List.Folds.{list_all-append}
use Rattle.sat_base.specs.declared.name.At.{At}
use Rattle.sat_base.specs.declared.width.Width.{Width}
use Rattle.operator_meaning.specs.declared.site.SiteKind.{SiteKind}
use Rattle.c_typed.specs.declared.call.Callee.{Callee}
use Rattle.c_typed.specs.declared.call.TypedArg.{TypedArg}
use Rattle.c_typed.specs.declared.call.TypedArg.TheOpen as node
use Rattle.c_typed.specs.declared.call.TypedArg.TheViews.{roll-TypedArg, roll-TypedExprKind, roll-TypedPlace}
use Rattle.c_typed.specs.declared.call.TypedArg.TheFolds.{map-TypedArg, map-TypedExprKind, map-TypedPlace, fold-roll-TypedArg, fold-roll-TypedExprKind, fold-roll-TypedPlace, fold_out-TypedCall, fold_out-TypedExpr, ind-TypedArg, ind-TypedPlace, ind-TypedCall, ind-TypedExpr}
use Rattle.c_typed.specs.declared.call.TypedCall.{TypedCall, roll-TypedCall}
use Rattle.c_typed.specs.declared.expression.TypedExpr.{TypedExpr, roll-TypedExpr}
use Rattle.c_typed.specs.declared.expression.TypedExprKind.{TypedExprKind}
use Rattle.c_typed.specs.declared.place.TypedPlace.{TypedPlace}
use Rattle.c_typed.specs.declared.typed.Typed.{Typed}
use Rattle.lawful_sources.specs.Things.{Marks, Taken, Use, Given, Thing, Place, Call, Argument, Mark, Conversion, Constant, taken_at}
use Rattle.lawful_sources.specs.Expressions.{Look, Argued, Placed, Calling, argued_from, of_argument, of_kind, of_place, of_call, of_expression, argument_look, kind_look, expression_look, in_place, in_call, in_expression, in_argument}

-- what the test passes
pub record PassesExpressions (test : Thing → Bool) : Type 0 where
  pub places : (object : ℕ) (marks : Marks) (aim : Use) → test (Place object marks aim) ≡ true
  pub calls : (callee : Callee) (arguments : ℕ) (is_needed : Bool) → test (Call callee arguments is_needed) ≡ true
  pub arguments : (is_view : Bool) (taken : Option Taken) → test (Argument is_view taken) ≡ true
  pub marks : (at : At) (site : Option ℕ) (kind : Option SiteKind) → test (Mark at site kind) ≡ true
  pub conversions : (is due : Option Width) → test (Conversion is due) ≡ true
  pub constants : (value : ℤ) → test (Constant value) ≡ true

-- all of a list pass the test: as a record, so that the list can be read off it
pub record Each {A : Type 0} (test : A → Bool) (list : List A) : Type 0 where
  pub all : list_all test list ≡ true

pub none : {A : Type 0} (test : A → Bool) → Each test []
none test = record { all = refl }

pub next : {A : Type 0} (test : A → Bool) (x : A) (rest : List A) → test x ≡ true → Each test rest → Each test (x ∷ rest)
next test x rest p q = record { all = rw (p, q.all) refl }

pub joined : {A : Type 0} (test : A → Bool) (xs ys : List A) → Each test xs → Each test ys → Each test (xs ++ ys)
joined test xs ys p q = record { all = list_all-append test xs ys ∙ rw (p.all, q.all) refl }

module _ (source : Typed) where
  pub roll_argument : (z : node.TypedArg-F TypedArg TypedExprKind TypedPlace TypedCall TypedExpr) → argument_look source (roll-TypedArg z)
      ≡ of_argument source (map-TypedArg TypedArg TypedExprKind TypedPlace TypedCall TypedExpr Argued Look Placed Calling Look (argument_look source) (kind_look source) (in_place source) (in_call source) (expression_look source) z)
  roll_argument = fold-roll-TypedArg _ _ _ _ _ (of_argument source) (of_kind source) (of_place source) (of_call source) (of_expression source)

  pub roll_kind : (z : node.TypedExprKind-F TypedArg TypedExprKind TypedPlace TypedCall TypedExpr) → kind_look source (roll-TypedExprKind z)
      ≡ of_kind source (map-TypedExprKind TypedArg TypedExprKind TypedPlace TypedCall TypedExpr Argued Look Placed Calling Look (argument_look source) (kind_look source) (in_place source) (in_call source) (expression_look source) z)
  roll_kind = fold-roll-TypedExprKind _ _ _ _ _ (of_argument source) (of_kind source) (of_place source) (of_call source) (of_expression source)

  pub roll_place : (z : node.TypedPlace-F TypedArg TypedExprKind TypedPlace TypedCall TypedExpr) → in_place source (roll-TypedPlace z)
      ≡ of_place source (map-TypedPlace TypedArg TypedExprKind TypedPlace TypedCall TypedExpr Argued Look Placed Calling Look (argument_look source) (kind_look source) (in_place source) (in_call source) (expression_look source) z)
  roll_place = fold-roll-TypedPlace _ _ _ _ _ (of_argument source) (of_kind source) (of_place source) (of_call source) (of_expression source)

  pub call-is : (call : TypedCall) → in_call source call ≡ of_call source (record { at = call.at; callee = call.callee; site = call.site; args = map (argument_look source) call.args })
  call-is call = fold_out-TypedCall Argued Look Placed Calling Look (of_argument source) (of_kind source) (of_place source) (of_call source) (of_expression source) call

  pub expression-is : (e : TypedExpr) → expression_look source e ≡ kind_look source e.kind
  unfolding of_expression
  expression-is e = fold_out-TypedExpr Argued Look Placed Calling Look (of_argument source) (of_kind source) (of_place source) (of_call source) (of_expression source) e

module _ (source : Typed) (test : Thing → Bool) (passes : PassesExpressions test) where
  abbrev pub ArgumentPasses : TypedArg → Type 0
  ArgumentPasses argument = (taken : Option Taken) → Each test (in_argument source argument taken)

  abbrev pub KindPasses : TypedExprKind → Type 0
  KindPasses kind = (due : Option Width) → Each test ((kind_look source kind).stands due)

  abbrev pub PlacePasses : TypedPlace → Type 0
  PlacePasses place = (aim : Use) → Each test (in_place source place aim)

  abbrev pub CallPasses : TypedCall → Type 0
  CallPasses call = (is_needed : Bool) → Each test (in_call source call is_needed)

  abbrev pub ExpressionPasses : TypedExpr → Type 0
  ExpressionPasses e = (due : Option Width) → Each test (in_expression source e due)

  values : (constants : List ℤ) → Each test (map Constant constants)
  values [] = none test
  values (value ∷ rest) = next test (Constant value) _ (passes.constants value) (values rest)

  one-conversion : (things : List Thing) (is due : Option Width) → Each test things → Each test (Conversion is due ∷ things)
  one-conversion things is due p = next test (Conversion is due) things (passes.conversions is due) p

  one-mark : (at : At) (site : Option ℕ) (kind : Option SiteKind) (rest : List Thing) → Each test rest → Each test (Mark at site kind ∷ rest)
  one-mark at site kind rest p = next test (Mark at site kind) rest (passes.marks at site kind) p

  one-place : (object : ℕ) (marks : Marks) (aim : Use) (rest : List Thing) → Each test rest → Each test (Place object marks aim ∷ rest)
  one-place object marks aim rest p = next test (Place object marks aim) rest (passes.places object marks aim) p

  as-kind : (kind : TypedExprKind) (look : Look) (due : Option Width) → kind_look source kind ≡ look → Each test (look.stands due) → Each test ((kind_look source kind).stands due)
  as-kind kind look due is p = subst (λ (l : Look). Each test (l.stands due)) (sym is) p

  as-place : (place : TypedPlace) (placed : Placed) (aim : Use) → in_place source place ≡ placed → Each test (placed aim) → Each test (in_place source place aim)
  as-place place placed aim is p = subst (λ (w : Placed). Each test (w aim)) (sym is) p

  as-argument : (argument : TypedArg) (look : Argued) (taken : Option Taken) → argument_look source argument ≡ look → Each test (look.stands taken) → Each test (in_argument source argument taken)
  as-argument argument look taken is p = subst (λ (l : Argued). Each test (l.stands taken)) (sym is) p

  module _ (A B C D E : Type 0) (a : A → TypedArg) (b : B → TypedExprKind) (c : C → TypedPlace) (d : D → TypedCall) (e : E → TypedExpr)
      (pa : (x : A) → ArgumentPasses (a x)) (pb : (x : B) → KindPasses (b x)) (pc : (x : C) → PlacePasses (c x)) (pd : (x : D) → CallPasses (d x)) (pe : (x : E) → ExpressionPasses (e x)) where
    argument_step : (y : node.TypedArg-F A B C D E) → ArgumentPasses (roll-TypedArg (map-TypedArg A B C D E TypedArg TypedExprKind TypedPlace TypedCall TypedExpr a b c d e y))
    unfolding of_argument
    argument_step (node.Value value) taken = as-argument _ _ taken (roll_argument source _) (next test _ _ (passes.arguments false taken) (pe value _))
    argument_step (node.Address at place) taken = as-argument _ _ taken (roll_argument source _) (next test _ _ (passes.arguments true taken) (pc place (Given taken)))

    kind_step : (y : node.TypedExprKind-F A B C D E) → KindPasses (roll-TypedExprKind (map-TypedExprKind A B C D E TypedArg TypedExprKind TypedPlace TypedCall TypedExpr a b c d e y))
    unfolding of_kind
    kind_step (node.Int value) due = as-kind _ _ due (roll_kind source _) (one-conversion [] None due (none test))
    kind_step (node.Read place) due = as-kind _ _ due (roll_kind source _) (one-conversion _ None due (pc place _))
    kind_step (node.ReadOverflow word_at) due = as-kind _ _ due (roll_kind source _) (one-conversion [] None due (none test))
    kind_step (node.Unary mark mark_at site part) due = as-kind _ _ due (roll_kind source _) (one-conversion _ None due (one-mark mark_at site _ _ (pe part None)))
    kind_step (node.Binary mark mark_at site left right) due =
        as-kind _ _ due (roll_kind source _) (one-conversion _ None due (joined test _ _ (pe left None) (one-mark mark_at site _ _ (joined test _ _ (values _) (pe right None)))))
    kind_step (node.Cast width part) due = as-kind _ _ due (roll_kind source _) (one-conversion _ None due (pe part None))
    kind_step (node.Convert width part) due = as-kind _ _ due (roll_kind source _) (one-conversion _ (Some width) due (pe part None))
    kind_step (node.Choose cond one other) due = as-kind _ _ due (roll_kind source _) (one-conversion _ None due (joined test _ _ (pe cond None) (joined test _ _ (pe one None) (pe other None))))
    kind_step (node.Call call) due = as-kind _ _ due (roll_kind source _) (one-conversion _ None due (pd call true))

    place_step : (y : node.TypedPlace-F A B C D E) → PlacePasses (roll-TypedPlace (map-TypedPlace A B C D E TypedArg TypedExprKind TypedPlace TypedCall TypedExpr a b c d e y))
    unfolding of_place
    place_step (node.Plain at object) aim = as-place _ _ aim (roll_place source _) (one-place object _ aim [] (none test))
    place_step (node.Index at object mark_at site index) aim = as-place _ _ aim (roll_place source _) (one-place object _ aim _ (one-mark mark_at site _ _ (pe index None)))
    place_step (node.Index2 at object first_at first_site first second_at second_site second) aim =
        as-place _ _ aim (roll_place source _) (one-place object _ aim _ (one-mark first_at first_site _ _ (joined test _ _ (pe first None) (one-mark second_at second_site _ _ (pe second None)))))
    place_step (node.Deref star_at site at object) aim = as-place _ _ aim (roll_place source _) (one-place object _ aim _ (one-mark star_at site _ [] (none test)))

    arguments_step : (callee : Callee) (place : ℕ) (ys : List A) → Each test (argued_from source callee place (map (argument_look source) (map a ys)))
    arguments_step callee place [] = none test
    arguments_step callee place (y ∷ ys) = joined test _ _ (pa y (taken_at source callee place)) (arguments_step callee (place + 1) ys)

    call_step : (y : node.TypedCall-F A B C D E) → CallPasses (record { at = y.at; callee = y.callee; site = y.site; args = map a y.args })
    unfolding of_call
    call_step y is_needed =
        subst (λ (w : Calling). Each test (w is_needed)) (sym (call-is source _))
        (next test _ _ (passes.calls y.callee _ is_needed) (one-mark y.at y.site _ _ (arguments_step y.callee 0 y.args)))

    expression_step : (y : node.TypedExpr-F A B C D E) → ExpressionPasses (record { at = y.at; brackets = y.brackets; kind = b y.kind })
    expression_step y due = subst (λ (l : Look). Each test (l.stands due)) (sym (expression-is source _)) (pb y.kind due)

  pub argument-passes : (x : TypedArg) → ArgumentPasses x
  argument-passes = ind-TypedArg ArgumentPasses KindPasses PlacePasses CallPasses ExpressionPasses
      (λ x y is. subst (λ z. ArgumentPasses (roll-TypedArg z)) is (argument_step _ _ _ _ _ (λ q. q.0) (λ q. q.0) (λ q. q.0) (λ q. q.0) (λ q. q.0) (λ q. q.1) (λ q. q.1) (λ q. q.1) (λ q. q.1) (λ q. q.1) y))
      (λ x y is. subst (λ z. KindPasses (roll-TypedExprKind z)) is (kind_step _ _ _ _ _ (λ q. q.0) (λ q. q.0) (λ q. q.0) (λ q. q.0) (λ q. q.0) (λ q. q.1) (λ q. q.1) (λ q. q.1) (λ q. q.1) (λ q. q.1) y))
      (λ x y is. subst (λ z. PlacePasses (roll-TypedPlace z)) is (place_step _ _ _ _ _ (λ q. q.0) (λ q. q.0) (λ q. q.0) (λ q. q.0) (λ q. q.0) (λ q. q.1) (λ q. q.1) (λ q. q.1) (λ q. q.1) (λ q. q.1) y))
      (λ x y is. subst (λ z. CallPasses (roll-TypedCall z)) is (call_step _ _ _ _ _ (λ q. q.0) (λ q. q.0) (λ q. q.0) (λ q. q.0) (λ q. q.0) (λ q. q.1) (λ q. q.1) (λ q. q.1) (λ q. q.1) (λ q. q.1) y))
      (λ x y is. subst (λ z. ExpressionPasses (roll-TypedExpr z)) is (expression_step _ _ _ _ _ (λ q. q.0) (λ q. q.0) (λ q. q.0) (λ q. q.0) (λ q. q.0) (λ q. q.1) (λ q. q.1) (λ q. q.1) (λ q. q.1) (λ q. q.1) y))

  pub place-passes : (x : TypedPlace) → PlacePasses x
  place-passes = ind-TypedPlace ArgumentPasses KindPasses PlacePasses CallPasses ExpressionPasses
      (λ x y is. subst (λ z. ArgumentPasses (roll-TypedArg z)) is (argument_step _ _ _ _ _ (λ q. q.0) (λ q. q.0) (λ q. q.0) (λ q. q.0) (λ q. q.0) (λ q. q.1) (λ q. q.1) (λ q. q.1) (λ q. q.1) (λ q. q.1) y))
      (λ x y is. subst (λ z. KindPasses (roll-TypedExprKind z)) is (kind_step _ _ _ _ _ (λ q. q.0) (λ q. q.0) (λ q. q.0) (λ q. q.0) (λ q. q.0) (λ q. q.1) (λ q. q.1) (λ q. q.1) (λ q. q.1) (λ q. q.1) y))
      (λ x y is. subst (λ z. PlacePasses (roll-TypedPlace z)) is (place_step _ _ _ _ _ (λ q. q.0) (λ q. q.0) (λ q. q.0) (λ q. q.0) (λ q. q.0) (λ q. q.1) (λ q. q.1) (λ q. q.1) (λ q. q.1) (λ q. q.1) y))
      (λ x y is. subst (λ z. CallPasses (roll-TypedCall z)) is (call_step _ _ _ _ _ (λ q. q.0) (λ q. q.0) (λ q. q.0) (λ q. q.0) (λ q. q.0) (λ q. q.1) (λ q. q.1) (λ q. q.1) (λ q. q.1) (λ q. q.1) y))
      (λ x y is. subst (λ z. ExpressionPasses (roll-TypedExpr z)) is (expression_step _ _ _ _ _ (λ q. q.0) (λ q. q.0) (λ q. q.0) (λ q. q.0) (λ q. q.0) (λ q. q.1) (λ q. q.1) (λ q. q.1) (λ q. q.1) (λ q. q.1) y))

  pub call-passes : (x : TypedCall) → CallPasses x
  call-passes = ind-TypedCall ArgumentPasses KindPasses PlacePasses CallPasses ExpressionPasses
      (λ x y is. subst (λ z. ArgumentPasses (roll-TypedArg z)) is (argument_step _ _ _ _ _ (λ q. q.0) (λ q. q.0) (λ q. q.0) (λ q. q.0) (λ q. q.0) (λ q. q.1) (λ q. q.1) (λ q. q.1) (λ q. q.1) (λ q. q.1) y))
      (λ x y is. subst (λ z. KindPasses (roll-TypedExprKind z)) is (kind_step _ _ _ _ _ (λ q. q.0) (λ q. q.0) (λ q. q.0) (λ q. q.0) (λ q. q.0) (λ q. q.1) (λ q. q.1) (λ q. q.1) (λ q. q.1) (λ q. q.1) y))
      (λ x y is. subst (λ z. PlacePasses (roll-TypedPlace z)) is (place_step _ _ _ _ _ (λ q. q.0) (λ q. q.0) (λ q. q.0) (λ q. q.0) (λ q. q.0) (λ q. q.1) (λ q. q.1) (λ q. q.1) (λ q. q.1) (λ q. q.1) y))
      (λ x y is. subst (λ z. CallPasses (roll-TypedCall z)) is (call_step _ _ _ _ _ (λ q. q.0) (λ q. q.0) (λ q. q.0) (λ q. q.0) (λ q. q.0) (λ q. q.1) (λ q. q.1) (λ q. q.1) (λ q. q.1) (λ q. q.1) y))
      (λ x y is. subst (λ z. ExpressionPasses (roll-TypedExpr z)) is (expression_step _ _ _ _ _ (λ q. q.0) (λ q. q.0) (λ q. q.0) (λ q. q.0) (λ q. q.0) (λ q. q.1) (λ q. q.1) (λ q. q.1) (λ q. q.1) (λ q. q.1) y))

  pub expression-passes : (x : TypedExpr) → ExpressionPasses x
  expression-passes = ind-TypedExpr ArgumentPasses KindPasses PlacePasses CallPasses ExpressionPasses
      (λ x y is. subst (λ z. ArgumentPasses (roll-TypedArg z)) is (argument_step _ _ _ _ _ (λ q. q.0) (λ q. q.0) (λ q. q.0) (λ q. q.0) (λ q. q.0) (λ q. q.1) (λ q. q.1) (λ q. q.1) (λ q. q.1) (λ q. q.1) y))
      (λ x y is. subst (λ z. KindPasses (roll-TypedExprKind z)) is (kind_step _ _ _ _ _ (λ q. q.0) (λ q. q.0) (λ q. q.0) (λ q. q.0) (λ q. q.0) (λ q. q.1) (λ q. q.1) (λ q. q.1) (λ q. q.1) (λ q. q.1) y))
      (λ x y is. subst (λ z. PlacePasses (roll-TypedPlace z)) is (place_step _ _ _ _ _ (λ q. q.0) (λ q. q.0) (λ q. q.0) (λ q. q.0) (λ q. q.0) (λ q. q.1) (λ q. q.1) (λ q. q.1) (λ q. q.1) (λ q. q.1) y))
      (λ x y is. subst (λ z. CallPasses (roll-TypedCall z)) is (call_step _ _ _ _ _ (λ q. q.0) (λ q. q.0) (λ q. q.0) (λ q. q.0) (λ q. q.0) (λ q. q.1) (λ q. q.1) (λ q. q.1) (λ q. q.1) (λ q. q.1) y))
      (λ x y is. subst (λ z. ExpressionPasses (roll-TypedExpr z)) is (expression_step _ _ _ _ _ (λ q. q.0) (λ q. q.0) (λ q. q.0) (λ q. q.0) (λ q. q.0) (λ q. q.1) (λ q. q.1) (λ q. q.1) (λ q. q.1) (λ q. q.1) y))
