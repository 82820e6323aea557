-- The sites that stand where objects of a block start are those that are noted there.
use Rattle.std.proofs.Common.{◌≡◌, ℕ, List, [], ◌∷◌, ◌++◌, Bool, true, false, length, refl, sym, ap, subst}
use Rattle.std.specs.Prelude.{flat_map, Option, Some, None, option_map, is_none, nat_lt, slice_get}
use Rattle.std.proofs.lemmas.Grind.{flat_map-append}
use Rattle.c_tree.specs.declared.call.Arg.{Arg}
use Rattle.c_tree.specs.declared.declaration.Decl.{Decl}
use Rattle.c_tree.specs.declared.declaration.Init.{Init}
use Rattle.c_tree.specs.declared.declaration.Init.TheVariants as init
use Rattle.c_tree.specs.declared.declaration.Objects.{Objects}
use Rattle.c_tree.specs.declared.program.Item.{Item}
use Rattle.c_typed.specs.declared.statement.Start.{Start}
use Rattle.c_typed.specs.declared.typed.Typed.{Typed}
use Rattle.operator_meaning.specs.declared.object.Object.{Object}
use Rattle.operator_meaning.specs.declared.object.Site.{Site}
use Rattle.declared_objects.specs.Initialisers.{bad_init}
use Rattle.declared_objects.specs.Lengths.{is_array}
use Rattle.c_seen.specs.declared.seen.Kind.{Kind}
use Rattle.c_seen.specs.declared.seen.Seen.{Seen}
use Rattle.c_seen.specs.declared.seen.Seen.TheVariants as seen
use Rattle.c_seen.specs.declared.seen.Wanted.{Wanted}
use Rattle.c_seen.specs.Declarations as scope
use Rattle.c_seen.specs.Declarations.{object, dimension, initialiser, is_static, wanted_of, seen_in_declared, seen_in_objects, seen_in_lists, after_lists}
use Rattle.c_seen.specs.Expressions.{seen_in_argument}
use Rattle.c_seen.specs.Meanings.{Names, kind_of}
use Rattle.c_faults.specs.Rows.{at_if}
use Rattle.tied_names.specs.declared.note.Note.{Note}
use Rattle.tied_names.specs.declared.tie.Asked.{Asked}
use Rattle.tied_names.specs.Numbers.{is_exposed}
use Rattle.tied_names.specs.Ties.{Here}
use Rattle.tied_objects.specs.Objects.{object_of}
use Rattle.tied_expressions.specs.Expressions.{tied_argument}
use Rattle.tied_statements.specs.Declarations.{after_declared, asked_by, start_value, starts_of, starts_in_lists}
use Rattle.lawful_sources.specs.Things.{Taken, Thing, taken_by, taken_by_object}
use Rattle.lawful_sources.specs.Expressions.{argument_look, in_argument}
use Rattle.lawful_sources.specs.Statements.{in_value_of, in_start}
use Rattle.lawful_sources.proofs.Passing.{Each}
use Rattle.lawful_laws.proofs.Statements.{earlier, later}
use Rattle.lawful_names.proofs.Agreement.{Near}
use Rattle.lawful_names.proofs.Clean.{Clean}
use Rattle.lawful_names.proofs.Declarations.{Shapes, declared-near, object-sound, no-array, wanted-start, asked-start}
use Rattle.lawful_names.proofs.Fitting.{wanted_for, asked_for}
use Rattle.lawful_names.proofs.Within.{Within, within-more, stands-last, starts-grow, lists-grow}
use Rattle.lawful_sites.proofs.Expressions.{argument-sites}
use Rattle.lawful_sites.proofs.Marks.{Keeps}
use Rattle.lawful_sites.proofs.Sited.{Sited, nothing, beside, both, last}
use Rattle.lawful_sites.proofs.Twins.{Twins, twins-declared}

module _ (source : Typed) (items : List Item) (Shaped : Kind → Object → Type 0) (sound : Seen → Bool) (clean : (s : Seen) → sound s ≡ true → Clean s) (shapes : Shapes Shaped sound)
    {K : Type 0} (key : Site → K) (tokens : List ℕ) (keeps : Keeps key source items Shaped sound) where
  abbrev Sites : List Thing → List Note → Type 0
  Sites things notes = Sited key tokens things notes

  no-value : (number : ℕ) → Sites (in_value_of source number None) []
  no-value number = beside key tokens _ [] [] refl refl (nothing key tokens)

  one-value : (names : Names) (here other : Here) → Near source items Shaped names here → Twins tokens here other → (decl : Decl) (function : ℕ) (exposed : Bool) (number : ℕ) → slice_get source.objects number ≡ Some (object_of decl (Some function) exposed)
      → is_array decl ≡ false → (arg : Arg) → Each sound (seen_in_argument arg names (wanted_of (kind_of decl) decl))
      → Sites (in_value_of source number (Some (argument_look source (tied_argument arg here (asked_by decl)).value))) (tied_argument arg other (asked_by decl)).notes
  one-value names here other near twins decl function exposed number stands single arg p =
      let taken : Taken = taken_by (object_of decl (Some function) exposed) in
      let given : Each sound (seen_in_argument arg names (wanted_for taken)) = subst (λ (w : Wanted). Each sound (seen_in_argument arg names w)) (wanted-start decl decl.pointer (is_array decl) (is_none decl.cols) single) p in
      last key tokens _ _ _ refl refl
      (subst (λ (a : Asked). Sites (in_argument source (tied_argument arg here a).value (taken_by_object (slice_get source.objects number))) (tied_argument arg other a).notes) (sym (asked-start decl.pointer decl.width decl.is_const))
      (subst (λ (o : Option Taken). Sites (in_argument source (tied_argument arg here (asked_for taken)).value o) (tied_argument arg other (asked_for taken)).notes) (sym (ap taken_by_object stands))
      (argument-sites source items Shaped sound clean key tokens keeps arg names here other taken near twins given)))

  abbrev beginning : Decl → Bool → Init → Decl
  beginning decl static start = record decl { is_static = static; init = start }

  start-sites : (names : Names) (here other : Here) → Near source items Shaped names here → Twins tokens here other → (decl : Decl) (is_local : Bool) (function : ℕ) (exposed : Bool) (number : ℕ) → slice_get source.objects number ≡ Some (object_of decl (Some function) exposed)
      → (static : Bool) (start : Init) → at_if (bad_init decl (is_static is_local decl) start) decl.name.at ≡ None → Each sound (initialiser names decl start)
      → Sites (in_value_of source number (option_map (argument_look source) (start_value here (beginning decl static start)).value)) (start_value other (beginning decl static start)).notes
  start-sites names here other near twins decl is_local function exposed number stands false (init.One arg) fine p =
      one-value names here other near twins decl function exposed number stands (no-array (is_array decl) _ decl.name.at fine) arg p
  start-sites names here other near twins decl is_local function exposed number stands static start fine p = no-value number

  declared-sites : (names : Names) (here other : Here) (depth : ℕ) (decl : Decl) (function : ℕ) → Near source items Shaped names here → Twins tokens here other → Within (after_declared here (Some function) decl).objects source.objects
      → Each sound (seen_in_declared names depth decl) → Sites (in_start source (record { object = length here.objects; value = (start_value here decl).value })) (start_value other decl).notes
  declared-sites names here other depth decl function near twins within p =
      let good : Clean (seen.Object (object decl (nat_lt 0 depth))) = clean _ (object-sound source items Shaped sound shapes names depth decl p) in
      start-sites names here other near twins decl (nat_lt 0 depth) function (is_exposed here.exposed (length here.objects)) (length here.objects) (stands-last here.objects source.objects _ within) decl.is_static decl.init good.initialiser
      (earlier sound _ _ (later sound (dimension names decl.cols) _ (later sound (dimension names decl.rows) _ p)))

  -- what is known after declarations, on both sides
  pub record Started (starts : List Start) (notes : List Note) (names : Names) (here other : Here) : Type 0 where
    pub sites : Sites (flat_map (in_start source) starts) notes
    pub near : Near source items Shaped names here
    pub twins : Twins tokens here other

  starts-sites : (names : Names) (here other : Here) (depth function : ℕ) (decls : List Decl) → Near source items Shaped names here → Twins tokens here other → Within (starts_of here function decls).after.objects source.objects
      → Each sound (seen_in_objects names depth decls)
      → Started (starts_of here function decls).value (starts_of other function decls).notes (scope.after_objects names depth decls) (starts_of here function decls).after (starts_of other function decls).after
  starts-sites names here other depth function [] near twins within p = record { sites = nothing key tokens; near = near; twins = twins }
  starts-sites names here other depth function (decl ∷ decls) near twins within p =
      let first : Each sound (seen_in_declared names depth decl) = earlier sound (seen_in_declared names depth decl) (seen_in_objects (scope.after_declared names depth decl) depth decls) p in
      let here_after : Here = after_declared here (Some function) decl in
      let other_after : Here = after_declared other (Some function) decl in
      let inside : Within here_after.objects source.objects = within-more _ _ _ (starts-grow here_after function decls) within in
      let rest : Started (starts_of here_after function decls).value (starts_of other_after function decls).notes (scope.after_objects (scope.after_declared names depth decl) depth decls) (starts_of here_after function decls).after (starts_of other_after function decls).after =
      starts-sites (scope.after_declared names depth decl) here_after other_after depth function decls
      (declared-near source items Shaped sound shapes names here depth decl (nat_lt 0 depth) (Some function) near inside (object-sound source items Shaped sound shapes names depth decl first))
      (twins-declared tokens here other (Some function) decl twins) within
      (later sound (seen_in_declared names depth decl) (seen_in_objects (scope.after_declared names depth decl) depth decls) p) in
      record { sites = both key tokens _ _ _ _ (declared-sites names here other depth decl function near twins inside first) rest.sites; near = rest.near; twins = rest.twins }

  pub lists-sites : (names : Names) (here other : Here) (depth function : ℕ) (lists : List Objects) → Near source items Shaped names here → Twins tokens here other → Within (starts_in_lists here function lists).after.objects source.objects
      → Each sound (seen_in_lists names depth lists)
      → Started (starts_in_lists here function lists).value (starts_in_lists other function lists).notes (after_lists names depth lists) (starts_in_lists here function lists).after (starts_in_lists other function lists).after
  lists-sites names here other depth function [] near twins within p = record { sites = nothing key tokens; near = near; twins = twins }
  lists-sites names here other depth function (list ∷ lists) near twins within p =
      let more : List Seen = seen_in_lists (scope.after_objects names depth list.decls) depth lists in
      let here_after : Here = (starts_of here function list.decls).after in
      let other_after : Here = (starts_of other function list.decls).after in
      let inside : Within here_after.objects source.objects = within-more _ _ _ (lists-grow here_after function lists) within in
      let first : Started (starts_of here function list.decls).value (starts_of other function list.decls).notes (scope.after_objects names depth list.decls) here_after other_after =
      starts-sites names here other depth function list.decls near twins inside (earlier sound (seen_in_objects names depth list.decls) more p) in
      let rest : Started (starts_in_lists here_after function lists).value (starts_in_lists other_after function lists).notes (after_lists (scope.after_objects names depth list.decls) depth lists) (starts_in_lists here_after function lists).after (starts_in_lists other_after function lists).after =
      lists-sites (scope.after_objects names depth list.decls) here_after other_after depth function lists first.near first.twins within (later sound (seen_in_objects names depth list.decls) more p) in
      record {
        sites = subst (λ (l : List Thing). Sites l ((starts_of other function list.decls).notes ++ (starts_in_lists other_after function lists).notes)) (sym (flat_map-append (in_start source) _ _)) (both key tokens _ _ _ _ first.sites rest.sites);
        near = rest.near;
        twins = rest.twins;
      }
