-- The sites that stand in a simple statement without a fault are those that are noted in it.
use Rattle.std.proofs.Common.{◌≡◌, ℕ, List, [], ◌∷◌, Bool, true, false}
use Rattle.std.specs.Prelude.{Option, Some, None}
use Rattle.sat_base.specs.declared.width.Width.{Width}
use Rattle.sat_base.specs.declared.width.Width.TheVariants.{W32}
use Rattle.c_tree.specs.declared.expression.Expr.{Expr}
use Rattle.c_tree.specs.declared.place.Place.{Place}
use Rattle.c_tree.specs.declared.program.Item.{Item}
use Rattle.c_tree.specs.declared.simple.AssignMark.{AssignMark}
use Rattle.c_tree.specs.declared.simple.AssignMark.TheVariants as sign
use Rattle.c_tree.specs.declared.simple.Simple.{Simple}
use Rattle.c_tree.specs.declared.simple.Simple.TheVariants as simple
use Rattle.c_typed.specs.declared.expression.TypedExpr.{TypedExpr}
use Rattle.c_typed.specs.declared.typed.Typed.{Typed}
use Rattle.operator_meaning.specs.declared.object.Object.{Object}
use Rattle.operator_meaning.specs.declared.object.Site.{Site}
use Rattle.c_seen.specs.declared.seen.Kind.{Kind}
use Rattle.c_seen.specs.declared.seen.Need.TheVariants as needs
use Rattle.c_seen.specs.declared.seen.Seen.{Seen}
use Rattle.c_seen.specs.Declarations.{number_if_any}
use Rattle.c_seen.specs.Expressions.{seen_in_place}
use Rattle.c_seen.specs.Meanings.{Names}
use Rattle.c_seen.specs.Statements.{seen_in_simple, simples}
use Rattle.tied_names.specs.declared.note.Note.{Note}
use Rattle.tied_names.specs.Ties.{Here}
use Rattle.tied_expressions.specs.Expressions.{tied_expression, tied_place}
use Rattle.tied_statements.specs.Statements.{assigned, tied_simple, tied_simples, tied_if_any, returned}
use Rattle.lawful_sources.specs.Things.{Thing, Written}
use Rattle.lawful_sources.specs.Expressions.{in_place, in_expression}
use Rattle.lawful_sources.specs.Statements.{due_by, in_option, in_simple, in_simples, in_value, in_returned}
use Rattle.lawful_sources.proofs.Passing.{Each}
use Rattle.lawful_laws.proofs.Statements.{earlier, later}
use Rattle.lawful_names.proofs.Agreement.{Near}
use Rattle.lawful_names.proofs.Clean.{Clean}
use Rattle.lawful_names.proofs.Fitting.{Writes}
use Rattle.lawful_sites.proofs.Expressions.{converted, number-sites, place-sites, call-sites}
use Rattle.lawful_sites.proofs.Marks.{Keeps, assign-kinds, step-kinds}
use Rattle.lawful_sites.proofs.Sited.{Sited, nothing, both, site, mark}
use Rattle.lawful_sites.proofs.Twins.{Twins}

module _ (source : Typed) (items : List Item) (Shaped : Kind → Object → Type 0) (sound : Seen → Bool) (clean : (s : Seen) → sound s ≡ true → Clean s)
    {K : Type 0} (key : Site → K) (tokens : List ℕ) (keeps : Keeps key source items Shaped sound) where
  abbrev Sites : List Thing → List Note → Type 0
  Sites things notes = Sited key tokens things notes

  -- conversions are no sites
  assigned-sites : (m : AssignMark) (width : Width) (target : Option Object) (x : TypedExpr) (notes : List Note) → Sites (in_expression source x None) notes → Sites (in_expression source (assigned m width x) (due_by m target)) notes
  assigned-sites sign.Plain width target x notes p = converted source items Shaped sound clean key tokens keeps width _ x notes p
  assigned-sites m width target x notes p = p

  value-sites : (x : Expr) (names : Names) (here other : Here) → Near source items Shaped names here → Twins tokens here other → Each sound (number_if_any names (Some x)) → Sites (in_expression source (tied_expression x here).value None) (tied_expression x other).notes
  value-sites x names here other near twins p = number-sites source items Shaped sound clean key tokens keeps x names here other near twins p

  written-sites : (x : Place) (names : Names) (here other : Here) → Near source items Shaped names here → Twins tokens here other → Each sound (seen_in_place x names false needs.Target)
      → Sites (in_place source (tied_place x here false).value Written) (tied_place x other false).notes
  written-sites x names here other near twins p = (place-sites source items Shaped sound clean key tokens keeps x names here other near twins).0 Writes p

  pub simple-sites : (x : Simple) (names : Names) (here other : Here) → Near source items Shaped names here → Twins tokens here other → Each sound (seen_in_simple names x) → Sites (in_simple source (tied_simple here x).value) (tied_simple other x).notes
  unfolding in_simple
  simple-sites (simple.Assign at target m mark_at value) names here other near twins p =
      both key tokens _ _ _ _ (written-sites target names here other near twins (earlier sound _ _ p)) (mark key tokens here twins.numbers mark_at _ _ _ _ _ (assign-kinds key mark_at m)
      (assigned-sites m _ _ _ _ (value-sites value names here other near twins (later sound (seen_in_place target names false needs.Target) _ p))))
  simple-sites (simple.Step at target up mark_at) names here other near twins p =
      both key tokens _ _ _ _ (written-sites target names here other near twins p) (site key tokens here twins.numbers mark_at _ _ [] [] (step-kinds key mark_at up) (nothing key tokens))
  simple-sites (simple.SetOverflow at value) names here other near twins p = converted source items Shaped sound clean key tokens keeps W32 _ _ _ (value-sites value names here other near twins p)
  simple-sites (simple.Call call) names here other near twins p = call-sites source items Shaped sound clean key tokens keeps call names here other false near twins p

  pub simples-sites : (list : List Simple) (names : Names) (here other : Here) → Near source items Shaped names here → Twins tokens here other → Each sound (simples names list) → Sites (in_simples source (tied_simples here list).value) (tied_simples other list).notes
  simples-sites [] names here other near twins p = nothing key tokens
  simples-sites (x ∷ list) names here other near twins p =
      both key tokens _ _ _ _ (simple-sites x names here other near twins (earlier sound _ _ p)) (simples-sites list names here other near twins (later sound (seen_in_simple names x) _ p))

  pub value-if-any : (value : Option Expr) (names : Names) (here other : Here) → Near source items Shaped names here → Twins tokens here other → Each sound (number_if_any names value)
      → Sites (in_option (in_value source) (tied_if_any here value).value) (tied_if_any other value).notes
  value-if-any None names here other near twins p = nothing key tokens
  value-if-any (Some x) names here other near twins p = value-sites x names here other near twins p

  pub returned-sites : (gives : Option Width) (in_loop : Bool) (value : Option Expr) (names : Names) (here other : Here) → Near source items Shaped names here → Twins tokens here other → Each sound (number_if_any names value)
      → Sites (in_option (in_returned source (record { in_loop = in_loop; gives = gives })) (returned gives (tied_if_any here value).value)) (tied_if_any other value).notes
  returned-sites None in_loop None names here other near twins p = nothing key tokens
  returned-sites None in_loop (Some x) names here other near twins p = value-sites x names here other near twins p
  returned-sites (Some width) in_loop None names here other near twins p = nothing key tokens
  returned-sites (Some width) in_loop (Some x) names here other near twins p = converted source items Shaped sound clean key tokens keeps width _ _ _ (value-sites x names here other near twins p)
