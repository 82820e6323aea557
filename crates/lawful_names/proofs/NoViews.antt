-- What is no place is no view, and no address is a number.
use Rattle.std.proofs.Common.{◌≡◌, List, ◌∷◌, Bool, true, length, subst}
use Rattle.std.specs.Prelude.{Option, Some, None}
use Rattle.sat_base.specs.declared.name.At.{At}
use Rattle.sat_base.specs.declared.name.Named.{Named}
use Rattle.c_tree.specs.declared.call.Call.{Call}
use Rattle.c_tree.specs.declared.expression.ExprKind.{ExprKind}
use Rattle.c_tree.specs.declared.place.Place.{Place}
use Rattle.c_seen.specs.declared.seen.Marks.{Marks as SeenMarks}
use Rattle.c_seen.specs.declared.seen.Meaning.{Meaning}
use Rattle.c_seen.specs.declared.seen.Need.TheVariants as needs
use Rattle.c_seen.specs.declared.seen.Seen.{Seen}
use Rattle.c_seen.specs.declared.seen.Seen.TheVariants as seen
use Rattle.c_seen.specs.declared.seen.View.{View as SeenView}
use Rattle.c_seen.specs.Expressions.{placed, seen_in_kind, seen_in_place, seen_in_call}
use Rattle.c_seen.specs.Meanings.{Names, meaning, called_by}
use Rattle.c_seen.proofs.Expressions_seen as sees
use Rattle.lawful_sources.proofs.Passing.{Each}
use Rattle.lawful_laws.proofs.Statements.{head}
use Rattle.lawful_names.proofs.Calls.{called-no-view}
use Rattle.lawful_names.proofs.Clean.{Clean, never}

module _ (sound : Seen → Bool) (clean : (s : Seen) → sound s ≡ true → Clean s) where
  no-view : (at : At) (rest : List Seen) → Each sound (seen.NoView at ∷ rest) → ⊥
  no-view at rest p = never at (clean _ (head sound _ _ p)).view

  -- what is no place is no view
  pub viewed-no : (x : ExprKind) (names : Names) (at : At) (view : SeenView) (rest : List Seen) (X : Type 0) → seen_in_kind x names (needs.View view at) ≡ seen.NoView at ∷ rest → Each sound (seen_in_kind x names (needs.View view at)) → X
  viewed-no x names at view rest X sees p = absurd (no-view at rest (subst (λ (l : List Seen). Each sound l) sees p))

  pub call-no-view : (call : Call) (names : Names) (at : At) (view : SeenView) → Each sound (seen_in_call call names (needs.View view at)) → ⊥
  call-no-view call names at view p =
      called-no-view call.name.at (called_by names call.name.name) (length call.args) view at
      (clean _ (head sound _ _ (subst (λ (l : List Seen). Each sound l) (sees.call-arguments call names (needs.View view at)) p)))

  no-address-of : (at : At) (marks : SeenMarks) (m : Option Meaning) → Clean (seen.Place (record { at = at; marks = marks; ampersand = true; meaning = m; need = needs.Number })) → ⊥
  no-address-of at marks None c = never at c.unknown
  no-address-of at marks (Some m) c = never at c.number

  pub no-address : (x : Place) (name : Named) (marks : SeenMarks) (names : Names) (list : List Seen) → seen_in_place x names true needs.Number ≡ placed name marks names true needs.Number ∷ list → Each sound (seen_in_place x names true needs.Number) → ⊥
  no-address x name marks names list is p = no-address-of name.at marks (meaning names name.name) (clean _ (head sound _ _ (subst (λ (l : List Seen). Each sound l) is p)))
