-- What stands in a simple statement without a fault passes each test that fits.
use Rattle.std.proofs.Common.{◌≡◌, ℕ, List, [], ◌∷◌, Bool, true, false, refl, sym, ap, ◌∙◌, subst}
use Rattle.std.specs.Prelude.{Option, Some, None, option_map, slice_get}
use Rattle.sat_base.specs.declared.name.Named.{Named}
use Rattle.sat_base.specs.declared.width.Width.{Width}
use Rattle.sat_base.specs.declared.width.Width.TheVariants.{W32}
use Rattle.c_tree.specs.declared.call.Arg.{Arg}
use Rattle.c_tree.specs.declared.call.Arg.TheOpen as node
use Rattle.c_tree.specs.declared.call.Call.{Call}
use Rattle.c_tree.specs.declared.expression.Expr.{Expr}
use Rattle.c_tree.specs.declared.expression.ExprKind.{ExprKind}
use Rattle.c_tree.specs.declared.place.Place.{Place, ind-Place, map-Place, roll-Place}
use Rattle.c_tree.specs.declared.place.Place.TheVariants as places
use Rattle.c_tree.specs.declared.program.Item.{Item}
use Rattle.c_tree.specs.declared.simple.AssignMark.{AssignMark}
use Rattle.c_tree.specs.declared.simple.AssignMark.TheVariants as mark
use Rattle.c_tree.specs.declared.simple.Simple.{Simple}
use Rattle.c_tree.specs.declared.simple.Simple.TheVariants as simple
use Rattle.c_typed.specs.declared.expression.TypedExpr.{TypedExpr}
use Rattle.c_typed.specs.declared.place.TypedPlace.{TypedPlace}
use Rattle.c_typed.specs.declared.typed.Typed.{Typed}
use Rattle.operator_meaning.specs.declared.object.Object.{Object}
use Rattle.c_seen.specs.declared.seen.Kind.{Kind}
use Rattle.c_seen.specs.declared.seen.Marks.{Marks as SeenMarks}
use Rattle.c_seen.specs.declared.seen.Marks.TheVariants as with_marks
use Rattle.c_seen.specs.declared.seen.Need.TheVariants as needs
use Rattle.c_seen.specs.declared.seen.Seen.{Seen}
use Rattle.c_seen.specs.Declarations.{number_if_any}
use Rattle.c_seen.specs.Expressions.{placed, seen_in_place}
use Rattle.c_seen.specs.Meanings.{Names, meaning}
use Rattle.c_seen.specs.Statements.{seen_in_simple, simples}
use Rattle.c_seen.proofs.Expressions_seen as sees
use Rattle.tied_names.specs.declared.tie.TiedObject.{TiedObject}
use Rattle.tied_names.specs.Ties.{Here, tie_of, object_of}
use Rattle.tied_expressions.specs.Expressions.{tied_expression, tied_place}
use Rattle.tied_expressions.specs.Sites.{Tied}
use Rattle.tied_expressions.proofs.Tied_equations as said
use Rattle.tied_statements.specs.Statements.{name_in, assigned, tied_simple, tied_simples, tied_if_any, returned}
use Rattle.lawful_sources.specs.Things.{Thing, Written}
use Rattle.lawful_sources.specs.Expressions.{in_place, in_expression}
use Rattle.lawful_sources.specs.Statements.{object_in, width_of, due_by, in_option, in_simple, in_simples, in_value, in_returned}
use Rattle.lawful_sources.proofs.Passing.{Each, none, next, joined}
use Rattle.lawful_laws.proofs.Statements.{earlier, later, head}
use Rattle.lawful_names.proofs.Agreement.{Near}
use Rattle.lawful_names.proofs.Clean.{Clean}
use Rattle.lawful_names.proofs.Expressions.{converted, number-stands, place-stands, call-stands}
use Rattle.lawful_names.proofs.Fitting.{Writes, Fits, NamesObject, place-names}

-- the object that is written to, of this width
record Targets (source : Typed) (place : TypedPlace) (width : Width) : Type 0 where
  object : Object
  stands : slice_get source.objects (object_in place) ≡ Some object
  widths : object.width ≡ width

module _ (source : Typed) (items : List Item) (Shaped : Kind → Object → Type 0) (sound : Seen → Bool) (clean : (s : Seen) → sound s ≡ true → Clean s) where
  abbrev PlaceTargets : Place → Type 0
  PlaceTargets x = (names : Names) (here : Here) → Near source items Shaped names here → Each sound (seen_in_place x names false needs.Target) → Targets source (tied_place x here false).value (object_of here (name_in x)).width

  target-by : (x : Place) (name : Named) (marks : SeenMarks) (names : Names) (here : Here) → Near source items Shaped names here → (t : Tied TypedPlace) (list : List Seen)
      → tied_place x here false ≡ t → seen_in_place x names false needs.Target ≡ placed name marks names false needs.Target ∷ list → object_in t.value ≡ (object_of here name.name).number → name_in x ≡ name.name
      → Each sound (seen_in_place x names false needs.Target) → Targets source (tied_place x here false).value (object_of here (name_in x)).width
  target-by x name marks names here near t list tied sees number named p =
      let o : NamesObject source items Shaped (meaning names name.name) (tie_of here name.name) =
      place-names source items Shaped name.at name.name marks Writes (meaning names name.name) (tie_of here name.name) (near.agree name.name) (clean _ (head sound _ _ (subst (λ (l : List Seen). Each sound l) sees p))) in record {
        object = o.is.object;
        stands = ap (λ (t : Tied TypedPlace). slice_get source.objects (object_in t.value)) tied ∙ ap (slice_get source.objects) number ∙ o.is.stands;
        widths = sym (ap (λ (n : List ℕ). (object_of here n).width) named ∙ ap (λ (t : TiedObject). t.width) o.is.tied_as);
      }

  abbrev SA : Type 0
  SA = (x : Arg) × Unit {0}

  abbrev SK : Type 0
  SK = (x : ExprKind) × Unit {0}

  abbrev SP : Type 0
  SP = (x : Place) × PlaceTargets x

  abbrev SC : Type 0
  SC = (x : Call) × Unit {0}

  abbrev SE : Type 0
  SE = (x : Expr) × Unit {0}

  on_place : (y : node.Place-F SA SK SP SC SE) → PlaceTargets (roll-Place (map-Place SA SK SP SC SE Arg ExprKind Place Call Expr (λ q. q.0) (λ q. q.0) (λ q. q.0) (λ q. q.0) (λ q. q.0) y))
  on_place (node.Plain name) = subst PlaceTargets (sym (places.rolls-Plain name)) (λ names here near.
      target-by _ name with_marks.None names here near _ _ (said.place-Plain name here false) (sees.place-Plain name names false needs.Target) refl refl)
  on_place (node.Index name mark_at index) = subst PlaceTargets (sym (places.rolls-Index name mark_at index.0)) (λ names here near.
      target-by _ name (with_marks.Once mark_at) names here near _ _ (said.place-Index name mark_at index.0 here false) (sees.place-Index name mark_at index.0 names false needs.Target) refl refl)
  on_place (node.Index2 name first_at first second_at second) = subst PlaceTargets (sym (places.rolls-Index2 name first_at first.0 second_at second.0)) (λ names here near.
      target-by _ name (with_marks.Twice first_at) names here near _ _ (said.place-Index2 name first_at first.0 second_at second.0 here false) (sees.place-Index2 name first_at first.0 second_at second.0 names false needs.Target) refl refl)
  on_place (node.Deref star_at name) = subst PlaceTargets (sym (places.rolls-Deref star_at name)) (λ names here near.
      target-by _ name (with_marks.Star star_at) names here near _ _ (said.place-Deref star_at name here false) (sees.place-Deref star_at name names false needs.Target) refl refl)

  place-targets : (x : Place) → PlaceTargets x
  place-targets = ind-Place (λ x. Unit {0}) (λ x. Unit {0}) PlaceTargets (λ x. Unit {0}) (λ x. Unit {0})
      (λ x y is. tt) (λ x y is. tt) (λ x y is. subst (λ z. PlaceTargets (roll-Place z)) is (on_place y)) (λ x y is. tt) (λ x y is. tt)

  module _ (test : Thing → Bool) (fits : Fits source items Shaped sound test) where
    assigned-stands : (m : AssignMark) (width : Width) (target : Option Object) (x : TypedExpr) → option_map width_of target ≡ Some width → Each test (in_expression source x None) → Each test (in_expression source (assigned m width x) (due_by m target))
    assigned-stands mark.Plain width target x is p = subst (λ (o : Option Width). Each test (in_expression source (assigned mark.Plain width x) o)) (sym is) (converted source items Shaped sound clean test fits width x p)
    assigned-stands mark.Plus width target x is p = p
    assigned-stands mark.Minus width target x is p = p
    assigned-stands mark.Times width target x is p = p
    assigned-stands mark.And width target x is p = p
    assigned-stands mark.Or width target x is p = p
    assigned-stands mark.Xor width target x is p = p

    value-stands : (x : Expr) (names : Names) (here : Here) → Near source items Shaped names here → Each sound (number_if_any names (Some x)) → Each test (in_expression source (tied_expression x here).value None)
    value-stands x names here near p = number-stands source items Shaped sound clean test fits x names here near p

    written-stands : (x : Place) (names : Names) (here : Here) → Near source items Shaped names here → Each sound (seen_in_place x names false needs.Target) → Each test (in_place source (tied_place x here false).value Written)
    written-stands x names here near p = (place-stands source items Shaped sound clean test fits x names here near).0 Writes p

    pub simple-stands : (x : Simple) (names : Names) (here : Here) → Near source items Shaped names here → Each sound (seen_in_simple names x) → Each test (in_simple source (tied_simple here x).value)
    unfolding in_simple
    simple-stands (simple.Assign at target m mark_at value) names here near p =
        let first : Each sound (seen_in_place target names false needs.Target) = earlier sound _ _ p in
        let t : Targets source (tied_place target here false).value (object_of here (name_in target)).width = place-targets target names here near first in
        joined test _ _ (written-stands target names here near first) (next test _ _ (fits.marks mark_at _ _)
        (assigned-stands m _ _ _ (ap (option_map width_of) t.stands ∙ ap (λ (w : Width). Some w) t.widths) (value-stands value names here near (later sound (seen_in_place target names false needs.Target) _ p))))
    simple-stands (simple.Step at target up mark_at) names here near p = joined test _ _ (written-stands target names here near p) (next test _ [] (fits.marks mark_at _ _) (none test))
    simple-stands (simple.SetOverflow at value) names here near p = converted source items Shaped sound clean test fits W32 _ (value-stands value names here near p)
    simple-stands (simple.Call call) names here near p = call-stands source items Shaped sound clean test fits call names here false near p

    pub simples-stand : (list : List Simple) (names : Names) (here : Here) → Near source items Shaped names here → Each sound (simples names list) → Each test (in_simples source (tied_simples here list).value)
    simples-stand [] names here near p = none test
    simples-stand (x ∷ list) names here near p = joined test _ _ (simple-stands x names here near (earlier sound _ _ p)) (simples-stand list names here near (later sound (seen_in_simple names x) _ p))

    pub value-if-any : (value : Option Expr) (names : Names) (here : Here) → Near source items Shaped names here → Each sound (number_if_any names value) → Each test (in_option (in_value source) (tied_if_any here value).value)
    value-if-any None names here near p = none test
    value-if-any (Some x) names here near p = value-stands x names here near p

    -- what is returned is converted to what the function gives
    pub returned-stands : (gives : Option Width) (in_loop : Bool) (value : Option Expr) (names : Names) (here : Here) → Near source items Shaped names here → Each sound (number_if_any names value)
        → Each test (in_option (in_returned source (record { in_loop = in_loop; gives = gives })) (returned gives (tied_if_any here value).value))
    returned-stands None in_loop None names here near p = none test
    returned-stands None in_loop (Some x) names here near p = value-stands x names here near p
    returned-stands (Some width) in_loop None names here near p = none test
    returned-stands (Some width) in_loop (Some x) names here near p = converted source items Shaped sound clean test fits width _ (value-stands x names here near p)
