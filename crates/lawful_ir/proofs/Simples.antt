-- What stands in the tree of an assignment, a step or a call is what stands in that.
use Rattle.std.proofs.Common.{◌≡◌, ℕ, ◌+◌, List, [], ◌∷◌, Bool, true, false, refl, sym, ap, ◌∙◌, subst, append-nil}
use Rattle.std.specs.Prelude.{if◌then◌else◌, slice_get, nat_le, Option, Some, None, option_map}
use Rattle.sat_base.specs.declared.name.At.{At}
use Rattle.sat_base.specs.declared.width.Width.{Width}
use Rattle.sat_base.specs.declared.width.Width.TheVariants.{W16, W32}
use Rattle.operator_meaning.specs.declared.object.Object.{Object}
use Rattle.operator_meaning.specs.declared.site.SiteKind.{SiteKind}
use Rattle.c_tree.specs.declared.simple.AssignMark.{AssignMark}
use Rattle.c_tree.specs.declared.simple.AssignMark.TheVariants as assign
use Rattle.c_typed.specs.declared.call.TypedArg.{TypedArg}
use Rattle.c_typed.specs.declared.call.TypedArg.TheOpen as node
use Rattle.c_typed.specs.declared.call.TypedArg.TheViews.{roll-TypedPlace}
use Rattle.c_typed.specs.declared.call.TypedArg.TheFolds.{map-TypedPlace, ind-TypedPlace}
use Rattle.c_typed.specs.declared.call.TypedCall.{TypedCall}
use Rattle.c_typed.specs.declared.expression.TypedExpr.{TypedExpr}
use Rattle.c_typed.specs.declared.expression.TypedExprKind.{TypedExprKind}
use Rattle.c_typed.specs.declared.place.TypedPlace.{TypedPlace}
use Rattle.c_typed.specs.declared.place.TypedPlace.TheVariants as places
use Rattle.c_typed.specs.declared.simple.TypedSimple.{TypedSimple}
use Rattle.c_typed.specs.declared.simple.TypedSimple.TheVariants as simple
use Rattle.c_typed.specs.declared.typed.Typed.{Typed}
use Rattle.source_runs.specs.declared.location.Access.TheVariants.{Element}
use Rattle.source_runs.specs.Shapes.{shape_of}
use Rattle.ir_arena.specs.Tree as tree
use Rattle.ir_arena.specs.Tree.{IrTree, IrTarget, IrTrees, trees_from}
use Rattle.source_trees.specs.Expressions.{TreeSetting, indexed, place_tree, expression_tree}
use Rattle.source_trees.specs.Statements.{object_in, simple_tree, simples_tree, conditions}
use Rattle.source_trees.proofs.Expressions.{place-Plain, place-Index, place-Index2, place-Deref}
use Rattle.lawful_sources.specs.Expressions.{in_place, in_expression}
use Rattle.lawful_sources.specs.Rows.{same_width}
use Rattle.lawful_sources.specs.Statements.{Spot, assign_kind, step_kind, due_by, in_simple, in_simples, in_option}
use Rattle.lawful_sources.specs.Statements.{object_in as named_in}
use Rattle.lawful_sources.specs.Things.{Written, Thing, Mark}
use Rattle.lawful_sources.proofs.Passing.{Each}
use Rattle.lawful_ir.specs.Positions.{TreeThing, Position, Valued, Acting, Stating, acted}
use Rattle.lawful_ir.specs.Walk.{count_in, object_at, marked, marked_if_any, written, stands, target_stands, each_stands}
use Rattle.lawful_ir.proofs.Alike.{never, fine, all_of, converts, moved, Agrees, setting_of, Goes, nothing, along, next, goes-by}
use Rattle.lawful_ir.proofs.Expressions.{place-walks, call-walks, expression-walks}

-- ---- the object that is written

object-of : (objects : List Object) (number : ℕ) (index : IrTrees) → object_in (indexed (shape_of objects number) index) ≡ number
object-of objects number index = by (slice_get objects number) refl
  where
    one-of : (view : Bool) (object : ℕ) → object_in (if view then tree.ThroughView object index else tree.Element object index) ≡ object
    one-of true object = refl
    one-of false object = refl

    by : (x : Option Object) → slice_get objects number ≡ x → object_in (indexed (shape_of objects number) index) ≡ number
    by None is = rw is refl
    by (Some o) is = rw is (one-of o.view number)

module _ (here : TreeSetting) where
  abbrev Names : TypedPlace → Type 0
  Names x = object_in (place_tree here x Element) ≡ named_in x

  abbrev Any : Type 0 → Type 0
  Any A = A × Unit {0}

  on_place : (y : node.TypedPlace-F (Any TypedArg) (Any TypedExprKind) ((x : TypedPlace) × Names x) (Any TypedCall) (Any TypedExpr))
      → Names (roll-TypedPlace (map-TypedPlace (Any TypedArg) (Any TypedExprKind) ((x : TypedPlace) × Names x) (Any TypedCall) (Any TypedExpr) TypedArg TypedExprKind TypedPlace TypedCall TypedExpr (λ q. q.0) (λ q. q.0) (λ q. q.0) (λ q. q.0) (λ q. q.0) y))
  on_place (node.Plain at object) = subst Names (sym (places.rolls-Plain at object)) (ap object_in (place-Plain here at object Element))
  on_place (node.Index at object mark_at site index) =
      subst Names (sym (places.rolls-Index at object mark_at site index.0)) (ap object_in (place-Index here at object mark_at site index.0 Element) ∙ object-of here.objects object _)
  on_place (node.Index2 at object first_at first_site first second_at second_site second) =
      subst Names (sym (places.rolls-Index2 at object first_at first_site first.0 second_at second_site second.0))
      (ap object_in (place-Index2 here at object first_at first_site first.0 second_at second_site second.0 Element) ∙ object-of here.objects object _)
  on_place (node.Deref star_at site at object) =
      subst Names (sym (places.rolls-Deref star_at site at object)) (ap object_in (place-Deref here star_at site at object Element) ∙ object-of here.objects object _)

  pub names : (x : TypedPlace) → Names x
  names = ind-TypedPlace (λ x. Unit {0}) (λ x. Unit {0}) Names (λ x. Unit {0}) (λ x. Unit {0})
      (λ x y is. tt) (λ x y is. tt) (λ x y is. subst (λ z. Names (roll-TypedPlace z)) is (on_place y)) (λ x y is. tt) (λ x y is. tt)

-- ---- widths and conversions do not depend on functions

own-width : (width : Width) → same_width width width ≡ true
own-width W16 = refl
own-width W32 = refl

due-by : (place : ℕ → ℕ) (mark : AssignMark) (x : Option Object) → due_by mark (option_map (moved place) x) ≡ due_by mark x
due-by place assign.Plain None = refl
due-by place assign.Plain (Some o) = refl
due-by place assign.Plus x = refl
due-by place assign.Minus x = refl
due-by place assign.Times x = refl
due-by place assign.And x = refl
due-by place assign.Or x = refl
due-by place assign.Xor x = refl

due-alike : (place : ℕ → ℕ) (mark : AssignMark) (x y : Option Object) → y ≡ option_map (moved place) x → due_by mark y ≡ due_by mark x
due-alike place mark x y is = rw is (due-by place mark x)

width-alike : (place : ℕ → ℕ) (objects others : List Object) (number : ℕ) → slice_get others number ≡ option_map (moved place) (slice_get objects number) → (shape_of others number).width ≡ (shape_of objects number).width
width-alike place objects others number is = by (slice_get objects number) refl
  where
    by : (x : Option Object) → slice_get objects number ≡ x → (shape_of others number).width ≡ (shape_of objects number).width
    by None at = let moved-there : slice_get others number ≡ None = is ∙ ap (option_map (moved place)) at in rw (at, moved-there) refl
    by (Some o) at = let moved-there : slice_get others number ≡ Some (moved place o) = is ∙ ap (option_map (moved place)) at in rw (at, moved-there) refl

module _ (source tables : Typed) (numbers : List ℕ) (place : ℕ → ℕ) (agrees : Agrees source tables numbers place) where
  abbrev here : TreeSetting
  here = setting_of source numbers

  -- in the head of a loop, or as a statement
  abbrev pub acting : Option Spot → Position
  acting None = Acting
  acting (Some spot) = Stating spot

  mark-if-any : (at : At) (site : Option ℕ) (kind : Option SiteKind) → fine source (Mark at site kind) ≡ true → marked_if_any tables site kind ≡ converts tables numbers (Mark at site kind)
  mark-if-any at None None p = refl
  mark-if-any at (Some site) (Some kind) p = refl
  mark-if-any at None (Some kind) p = never p
  mark-if-any at (Some site) None p = never p

  written-goes : (target : TypedPlace) (things : List TreeThing) (list : List Thing) → Goes source tables numbers things list
      → Goes source tables numbers (written tables (place_tree here target Element) (shape_of source.objects (object_in (place_tree here target Element))).width things) list
  written-goes target things list goes =
      goes-by source tables numbers things _ list (rw (width-alike place source.objects tables.objects (object_in (place_tree here target Element)) (agrees.objects _), own-width (shape_of source.objects (object_in (place_tree here target Element))).width) refl) goes

  due-is : (mark : AssignMark) (target : TypedPlace) → due_by mark (slice_get source.objects (named_in target)) ≡ due_by mark (object_at tables (object_in (place_tree here target Element)))
  due-is mark target = sym (due-alike place mark _ _ (agrees.objects _) ∙ ap (λ (n : ℕ). due_by mark (slice_get source.objects n)) (names here target))

  expression-goes : (e : TypedExpr) (due : Option Width) → Goes source tables numbers (stands tables (expression_tree here e) (Valued None due)) (in_expression source e due)
  expression-goes e due = record { is = λ p. (expression-walks source tables numbers place agrees e).stand None due p }

  target-goes : (target : TypedPlace) → Goes source tables numbers (target_stands tables (place_tree here target Element) Written) (in_place source target Written)
  target-goes target = (place-walks source tables numbers place agrees target).reached Written

  pub simple-walks : (x : TypedSimple) (at : Option Spot) → Each (fine source) (in_simple source x) → stands tables (simple_tree here x) (acting at) ≡ acted (acting at) (all_of source tables numbers (in_simple source x))
  unfolding in_simple
  simple-walks (simple.Assign at target mark mark_at site value) which p =
      ap (acted (acting which)) ((written-goes target _ _ (along source tables numbers _ _ _ _ (target-goes target) (next source tables numbers _ _ _ _ (mark-if-any mark_at site (assign_kind mark))
      (subst (λ (d : Option Width). Goes source tables numbers (stands tables (expression_tree here value) (Valued None (due_by mark (object_at tables (object_in (place_tree here target Element)))))) (in_expression source value d)) (sym (due-is mark target))
      (expression-goes value _))))).is p)
  simple-walks (simple.Step at target up mark_at site) which p =
      ap (acted (acting which)) ((written-goes target _ _ (along source tables numbers _ _ _ _ (target-goes target) (next source tables numbers (marked tables _ (step_kind up) ∷ []) [] (Mark mark_at site (Some (step_kind up))) [] (λ q. refl) (nothing source tables numbers)))).is p)
  simple-walks (simple.SetOverflow at value) which p = ap (acted (acting which)) ((expression-goes value (Some W32)).is p)
  simple-walks (simple.Call call) None p = (call-walks source tables numbers place agrees call).invoked Acting (λ site kind weight operands arguments. refl) p
  simple-walks (simple.Call call) (Some spot) p = (call-walks source tables numbers place agrees call).invoked (Stating spot) (λ site kind weight operands arguments. refl) p

  pub simples-go : (list : List TypedSimple) (n : ℕ) → Goes source tables numbers (each_stands tables (simples_tree here list) (λ k. Acting) n) (in_simples source list)
  simples-go [] n = nothing source tables numbers
  simples-go (x ∷ list) n = along source tables numbers _ _ _ _ (record { is = λ p. simple-walks x None p }) (simples-go list (n + 1))

  -- a condition, or a returned value, if there is one
  pub condition-goes : (cond : Option TypedExpr) (due : Option Width) → Goes source tables numbers (each_stands tables (conditions here cond) (λ k. Valued None due) 0) (in_option (λ e. in_expression source e due) cond)
  condition-goes None due = nothing source tables numbers
  condition-goes (Some e) due = goes-by source tables numbers _ _ _ (append-nil _) (expression-goes e due)

  pub few-conditions : (cond : Option TypedExpr) → nat_le (count_in (conditions here cond)) 1 ≡ true
  few-conditions None = refl
  few-conditions (Some e) = refl
