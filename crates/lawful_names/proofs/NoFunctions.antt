-- No function is seen in an expression: an induction over the tree.
use Rattle.std.proofs.Common.{◌≡◌, ℕ, ◌+◌, List, [], ◌∷◌, ◌++◌, Bool, true, false, map, refl, sym, subst}
use Rattle.std.specs.Prelude.{ℤ, negsuc, Option, Some, None, not, if◌then◌else◌}
use Rattle.std.specs.Ordering.{int_eq}
use Rattle.sat_base.specs.declared.name.At.{At}
use Rattle.c_tree.specs.declared.call.Arg.{Arg, ind-Arg, map-Arg, roll-Arg}
use Rattle.c_tree.specs.declared.call.Arg.TheOpen as node
use Rattle.c_tree.specs.declared.call.Arg.TheVariants as arg
use Rattle.c_tree.specs.declared.call.Call.{Call, ind-Call, roll-Call}
use Rattle.c_tree.specs.declared.declaration.Dim.{Dim}
use Rattle.c_tree.specs.declared.expression.Expr.{Expr, roll-Expr}
use Rattle.c_tree.specs.declared.expression.ExprKind.{ExprKind, ind-ExprKind, map-ExprKind, roll-ExprKind}
use Rattle.c_tree.specs.declared.expression.ExprKind.TheVariants as kind
use Rattle.c_tree.specs.declared.expression.UnaryMark.{UnaryMark}
use Rattle.c_tree.specs.declared.expression.UnaryMark.TheVariants as unary
use Rattle.c_tree.specs.declared.place.Place.{Place, ind-Place, map-Place, roll-Place}
use Rattle.c_tree.specs.declared.place.Place.TheVariants as places
use Rattle.c_seen.specs.declared.seen.Meaning.{Meaning}
use Rattle.c_seen.specs.declared.seen.Need.{Need}
use Rattle.c_seen.specs.declared.seen.Need.TheVariants as needs
use Rattle.c_seen.specs.declared.seen.Seen.{Seen}
use Rattle.c_seen.specs.declared.seen.Seen.TheVariants as seen
use Rattle.c_seen.specs.declared.seen.Wanted.{Wanted}
use Rattle.c_seen.specs.Declarations.{dimension, number_if_any}
use Rattle.c_seen.specs.Expressions.{is_relation, no_view, opposite, seen_in_expression, seen_in_kind, constant_of_kind, integer_of_kind, seen_in_place, seen_in_call, seen_in_argument, arguments_from}
use Rattle.c_seen.specs.Meanings.{Names, meaning, wanted_at}
use Rattle.c_seen.proofs.Expressions_seen as sees
use Rattle.c_faults.specs.Limits.{is_function}
use Rattle.lawful_sources.proofs.Passing.{Each, none, next, joined}

abbrev pub is_inner : Seen → Bool
is_inner s = not (is_function s)

abbrev pub Inner : List Seen → Type 0
Inner list = Each is_inner list

abbrev KindInner : ExprKind → Type 0
KindInner x = ((names : Names) (need : Need) → Inner (seen_in_kind x names need)) × ((at : At) → Inner (constant_of_kind x at))

abbrev ExpressionInner : Expr → Type 0
ExpressionInner x = KindInner x.kind

abbrev PlaceInner : Place → Type 0
PlaceInner x = (names : Names) (ampersand : Bool) (need : Need) → Inner (seen_in_place x names ampersand need)

abbrev CallInner : Call → Type 0
CallInner x = (names : Names) (need : Need) → Inner (seen_in_call x names need)

abbrev ArgumentInner : Arg → Type 0
ArgumentInner x = (names : Names) (wanted : Wanted) → Inner (seen_in_argument x names wanted)

pub same : (list other : List Seen) → list ≡ other → Inner other → Inner list
same list other is p = subst (λ (l : List Seen). Inner l) (sym is) p

expression : (x : Expr) → ExpressionInner x → (names : Names) (need : Need) → Inner (seen_in_expression x names need)
expression x p names need = same _ _ (sees.expression-kind x names need) (p.0 names need)

no-view : (need : Need) → Inner (no_view need)
no-view needs.Number = none is_inner
no-view needs.Target = none is_inner
no-view (needs.View view first) = next is_inner _ [] refl (none is_inner)
no-view needs.Nothing = none is_inner

in-relation : (relation : Bool) (left right : List Seen) → Inner left → Inner right → Inner (if relation then left ++ right else [])
in-relation true left right p q = joined is_inner left right p q
in-relation false left right p q = none is_inner

opposite-by : (least : Bool) (at : At) (value : ℤ) → Inner (if least then [] else seen.Constant at value ∷ [])
opposite-by true at value = none is_inner
opposite-by false at value = next is_inner _ [] refl (none is_inner)

opposite-inner : (value : Option ℤ) (at : At) → Inner (opposite value at)
opposite-inner None at = none is_inner
opposite-inner (Some value) at = opposite-by (int_eq value (negsuc 2147483647)) at _

signed : (mark : UnaryMark) (mark_at : At) (part : Expr) → ExpressionInner part → (at : At) → Inner (constant_of_kind (kind.Unary mark mark_at part) at)
signed unary.Plus mark_at part p at = same _ _ (sees.constant-Plus mark_at part at) (p.1 part.at)
signed unary.Minus mark_at part p at = same _ _ (sees.constant-Minus mark_at part at) (opposite-inner (integer_of_kind part.kind) at)
signed unary.Not mark_at part p at = same _ _ (sees.constant-Not mark_at part at) (none is_inner)
signed unary.Invert mark_at part p at = same _ _ (sees.constant-Invert mark_at part at) (none is_inner)

abbrev SA : Type 0
SA = (x : Arg) × ArgumentInner x

abbrev SK : Type 0
SK = (x : ExprKind) × KindInner x

abbrev SP : Type 0
SP = (x : Place) × PlaceInner x

abbrev SC : Type 0
SC = (x : Call) × CallInner x

abbrev SE : Type 0
SE = (x : Expr) × ExpressionInner x

on_kind : (y : node.ExprKind-F SA SK SP SC SE) → KindInner (roll-ExprKind (map-ExprKind SA SK SP SC SE Arg ExprKind Place Call Expr (λ q. q.0) (λ q. q.0) (λ q. q.0) (λ q. q.0) (λ q. q.0) y))
on_kind (node.Int value) = subst KindInner (sym (kind.rolls-Int value)) (λ names need. same _ _ (sees.sees-Int value names need) (no-view need), λ at. same _ _ (sees.constant-Int value at) (next is_inner _ [] refl (none is_inner)))
on_kind (node.Read named) = subst KindInner (sym (kind.rolls-Read named.0)) (λ names need. same _ _ (sees.sees-Read named.0 names need) (named.1 names false need), λ at. same _ _ (sees.constant-Read named.0 at) (none is_inner))
on_kind (node.ReadOverflow word_at) = subst KindInner (sym (kind.rolls-ReadOverflow word_at)) (λ names need. same _ _ (sees.sees-ReadOverflow word_at names need) (no-view need), λ at. same _ _ (sees.constant-ReadOverflow word_at at) (none is_inner))
on_kind (node.Unary mark mark_at part) = subst KindInner (sym (kind.rolls-Unary mark mark_at part.0)) (
  λ names need. same _ _ (sees.sees-Unary mark mark_at part.0 names need) (joined is_inner _ _ (no-view need) (expression part.0 part.1 names needs.Number)),
  signed mark mark_at part.0 part.1,
)
on_kind (node.Binary mark mark_at one other) = subst KindInner (sym (kind.rolls-Binary mark mark_at one.0 other.0)) (
  λ names need. same _ _ (sees.sees-Binary mark mark_at one.0 other.0 names need) (joined is_inner _ _ (no-view need) (joined is_inner _ _ (expression one.0 one.1 names needs.Number)
      (joined is_inner _ _ (in-relation (is_relation mark) _ _ (one.1.1 one.0.at) (other.1.1 other.0.at)) (expression other.0 other.1 names needs.Number)))),
  λ at. same _ _ (sees.constant-Binary mark mark_at one.0 other.0 at) (none is_inner),
)
on_kind (node.Cast width part) = subst KindInner (sym (kind.rolls-Cast width part.0)) (
  λ names need. same _ _ (sees.sees-Cast width part.0 names need) (joined is_inner _ _ (no-view need) (expression part.0 part.1 names needs.Number)),
  λ at. same _ _ (sees.constant-Cast width part.0 at) (none is_inner),
)
on_kind (node.Choose cond one other) = subst KindInner (sym (kind.rolls-Choose cond.0 one.0 other.0)) (
  λ names need. same _ _ (sees.sees-Choose cond.0 one.0 other.0 names need) (joined is_inner _ _ (no-view need)
      (joined is_inner _ _ (expression cond.0 cond.1 names needs.Number) (joined is_inner _ _ (expression one.0 one.1 names needs.Number) (expression other.0 other.1 names needs.Number)))),
  λ at. same _ _ (sees.constant-Choose cond.0 one.0 other.0 at) (none is_inner),
)
on_kind (node.Call call) = subst KindInner (sym (kind.rolls-Call call.0)) (λ names need. same _ _ (sees.sees-Call call.0 names need) (call.1 names need), λ at. same _ _ (sees.constant-Call call.0 at) (none is_inner))

on_place : (y : node.Place-F SA SK SP SC SE) → PlaceInner (roll-Place (map-Place SA SK SP SC SE Arg ExprKind Place Call Expr (λ q. q.0) (λ q. q.0) (λ q. q.0) (λ q. q.0) (λ q. q.0) y))
on_place (node.Plain name) = subst PlaceInner (sym (places.rolls-Plain name)) (λ names ampersand need. same _ _ (sees.place-Plain name names ampersand need) (next is_inner _ [] refl (none is_inner)))
on_place (node.Index name mark_at index) = subst PlaceInner (sym (places.rolls-Index name mark_at index.0)) (λ names ampersand need.
    same _ _ (sees.place-Index name mark_at index.0 names ampersand need) (next is_inner _ _ refl (expression index.0 index.1 names needs.Number)))
on_place (node.Index2 name first_at first second_at second) = subst PlaceInner (sym (places.rolls-Index2 name first_at first.0 second_at second.0)) (λ names ampersand need.
    same _ _ (sees.place-Index2 name first_at first.0 second_at second.0 names ampersand need) (next is_inner _ _ refl (joined is_inner _ _ (expression first.0 first.1 names needs.Number) (expression second.0 second.1 names needs.Number))))
on_place (node.Deref star_at name) = subst PlaceInner (sym (places.rolls-Deref star_at name)) (λ names ampersand need. same _ _ (sees.place-Deref star_at name names ampersand need) (next is_inner _ [] refl (none is_inner)))

on_argument : (y : node.Arg-F SA SK SP SC SE) → ArgumentInner (roll-Arg (map-Arg SA SK SP SC SE Arg ExprKind Place Call Expr (λ q. q.0) (λ q. q.0) (λ q. q.0) (λ q. q.0) (λ q. q.0) y))
on_argument (node.Value value) = subst ArgumentInner (sym (arg.rolls-Value value.0)) (λ names wanted. same _ _ (sees.argument-Value value.0 names wanted) (expression value.0 value.1 names _))
on_argument (node.Address at named) = subst ArgumentInner (sym (arg.rolls-Address at named.0)) (λ names wanted. same _ _ (sees.argument-Address at named.0 names wanted) (named.1 names true _))

arguments : (ys : List SA) (names : Names) (m : Option Meaning) (place : ℕ) → Inner (arguments_from (map (λ (q : SA). q.0) ys) names m place)
arguments [] names m place = none is_inner
arguments (y ∷ ys) names m place = joined is_inner _ _ (y.1 names (wanted_at names.items m place)) (arguments ys names m (place + 1))

on_call : (y : node.Call-F SA SK SP SC SE) → CallInner (record { name = y.name; args = map (λ (q : SA). q.0) y.args })
on_call y names need =
    let call : Call = record { name = y.name; args = map (λ (q : SA). q.0) y.args } in
    same _ _ (sees.call-arguments call names need) (next is_inner _ _ refl (arguments y.args names (meaning names y.name.name) 0))

kind-inner : (x : ExprKind) → KindInner x
kind-inner = ind-ExprKind ArgumentInner KindInner PlaceInner CallInner ExpressionInner
    (λ x y is. subst (λ z. ArgumentInner (roll-Arg z)) is (on_argument y))
    (λ x y is. subst (λ z. KindInner (roll-ExprKind z)) is (on_kind y))
    (λ x y is. subst (λ z. PlaceInner (roll-Place z)) is (on_place y))
    (λ x y is. subst (λ z. CallInner (roll-Call z)) is (on_call y))
    (λ x y is. subst (λ z. ExpressionInner (roll-Expr z)) is y.kind.1)

pub place-inner : (x : Place) → PlaceInner x
place-inner = ind-Place ArgumentInner KindInner PlaceInner CallInner ExpressionInner
    (λ x y is. subst (λ z. ArgumentInner (roll-Arg z)) is (on_argument y))
    (λ x y is. subst (λ z. KindInner (roll-ExprKind z)) is (on_kind y))
    (λ x y is. subst (λ z. PlaceInner (roll-Place z)) is (on_place y))
    (λ x y is. subst (λ z. CallInner (roll-Call z)) is (on_call y))
    (λ x y is. subst (λ z. ExpressionInner (roll-Expr z)) is y.kind.1)

pub call-inner : (x : Call) → CallInner x
call-inner = ind-Call ArgumentInner KindInner PlaceInner CallInner ExpressionInner
    (λ x y is. subst (λ z. ArgumentInner (roll-Arg z)) is (on_argument y))
    (λ x y is. subst (λ z. KindInner (roll-ExprKind z)) is (on_kind y))
    (λ x y is. subst (λ z. PlaceInner (roll-Place z)) is (on_place y))
    (λ x y is. subst (λ z. CallInner (roll-Call z)) is (on_call y))
    (λ x y is. subst (λ z. ExpressionInner (roll-Expr z)) is y.kind.1)

pub argument-inner : (x : Arg) → ArgumentInner x
argument-inner = ind-Arg ArgumentInner KindInner PlaceInner CallInner ExpressionInner
    (λ x y is. subst (λ z. ArgumentInner (roll-Arg z)) is (on_argument y))
    (λ x y is. subst (λ z. KindInner (roll-ExprKind z)) is (on_kind y))
    (λ x y is. subst (λ z. PlaceInner (roll-Place z)) is (on_place y))
    (λ x y is. subst (λ z. CallInner (roll-Call z)) is (on_call y))
    (λ x y is. subst (λ z. ExpressionInner (roll-Expr z)) is y.kind.1)

pub number-inner : (names : Names) (x : Expr) → Each is_inner (seen_in_expression x names needs.Number)
number-inner names x = expression x (kind-inner x.kind) names needs.Number

pub number-if-any : (names : Names) (value : Option Expr) → Each is_inner (number_if_any names value)
number-if-any names None = none is_inner
number-if-any names (Some x) = number-inner names x

-- in a dimension
pub dimension-inner : (names : Names) (dim : Option Dim) → Each is_inner (dimension names dim)
dimension-inner names None = none is_inner
dimension-inner names (Some dim) = number-if-any names dim.length
