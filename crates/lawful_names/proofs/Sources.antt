-- What stands in a source without a fault passes each test that fits: item by item.
use Rattle.std.proofs.Common.{◌≡◌, ℕ, zero, suc, ◌+◌, List, [], ◌∷◌, Bool, true, false, map, length, refl, ap, ◌∙◌, subst, arith}
use Rattle.std.specs.Prelude.{Option, Some, None, is_some, if◌then◌else◌, nat_lt, slice_get, slice_set}
use Rattle.std.specs.List.{list_all}
use Rattle.std.specs.Str.{bytes_eq}
use Rattle.std.proofs.lemmas.List.Folds.{list_all-append}
use Rattle.std.proofs.lemmas.Slice.Eq.{bytes_eq-Decides}
use Rattle.sat_base.specs.declared.name.Named.{Named}
use Rattle.c_scopes.specs.Scopes.{Known, meaning_of}
use Rattle.c_tree.specs.declared.declaration.Decl.{Decl}
use Rattle.c_tree.specs.declared.function.Function.{Function}
use Rattle.c_tree.specs.declared.function.Param.{Param}
use Rattle.c_tree.specs.declared.program.Item.{Item}
use Rattle.c_tree.specs.declared.program.Item.TheVariants as items_of
use Rattle.c_tree.specs.declared.program.Program.{Program}
use Rattle.c_tree.specs.declared.statement.Block.{Block}
use Rattle.c_typed.specs.declared.typed.Typed.{Typed}
use Rattle.c_typed.specs.declared.typed.TypedFunction.{TypedFunction}
use Rattle.operator_meaning.specs.declared.object.Object.{Object}
use Rattle.predefined_calls.specs.Calls.{callee_of}
use Rattle.c_seen.specs.declared.functions.Declaration.{Declaration}
use Rattle.c_seen.specs.declared.seen.Kind.{Kind}
use Rattle.c_seen.specs.declared.seen.Kind.TheVariants as kinds
use Rattle.c_seen.specs.declared.seen.Meaning.TheVariants as means
use Rattle.c_seen.specs.declared.seen.Seen.{Seen}
use Rattle.c_seen.specs.Declarations as scope
use Rattle.c_seen.specs.Declarations.{meaning_of_parameter, seen_in_declared, seen_in_objects, seen_in_parameters, after_parameters}
use Rattle.c_seen.specs.Functions.{is_view, functions_of}
use Rattle.c_seen.specs.Meanings.{Names}
use Rattle.c_seen.specs.Sources as seen_sources
use Rattle.c_seen.specs.Sources.{body_spot, seen_in_body, seen_in_function, seen_in_items, functions_after, end_of, seen_of}
use Rattle.tied_names.specs.declared.tie.Tie.TheVariants as ties
use Rattle.tied_names.specs.Numbers.{token_of, exposed_in}
use Rattle.tied_names.specs.Ties.{Here}
use Rattle.tied_statements.specs.Declarations.{tie_to, after_declared, after_objects}
use Rattle.c_types.specs.Sources.{Source, number_of, functions_or, declared, parameter_of, after_named, after_parameter, parameters_of, inside_of, after_declaration, after_body, after_function, after_item, after_items, opening}
use Rattle.c_types.specs.Tied.{IsTied, notes_of}
use Rattle.lawful_sources.specs.Things.{Thing}
use Rattle.lawful_sources.specs.Statements.{in_function}
use Rattle.lawful_sources.specs.Lawful.{Everywhere}
use Rattle.lawful_sources.proofs.Passing.{Each}
use Rattle.lawful_laws.proofs.Functions.{both, left, right, all-flat}
use Rattle.lawful_laws.proofs.Statements.{earlier, later, tail}
use Rattle.lawful_names.proofs.Agreement.{IsFunction, Near, is_pointing, newest-agrees, predefined-agrees}
use Rattle.lawful_names.proofs.Clean.{Clean}
use Rattle.lawful_names.proofs.Declarations.{Shapes, declared-near, object-sound}
use Rattle.lawful_names.proofs.Fitting.{Fits}
use Rattle.lawful_names.proofs.Keeping.{Fresh}
use Rattle.lawful_names.proofs.Predefined.{call-is-predefined, no-function}
use Rattle.lawful_names.proofs.Reached.{Reached, within-source, Steps, steps, function-own, next-reached, at-end}
use Rattle.lawful_names.proofs.Statements.{still-near, block-stands}
use Rattle.lawful_names.proofs.Within.{Within, within-more, stands-last, objects-grow, parameters-grow, block-grows}

-- ---- what holds of all functions

pub added-or : (holds : TypedFunction → Bool) (number : Option ℕ) (functions : List TypedFunction) (g : Function) → holds (declared g) ≡ true → list_all holds functions ≡ true → list_all holds (functions_or number functions g) ≡ true
added-or holds None functions g bare p = list_all-append holds functions (declared g ∷ []) ∙ both _ _ p (both _ _ bare refl)
added-or holds (Some number) functions g bare p = p

set-holds : (holds : TypedFunction → Bool) (functions : List TypedFunction) (number : ℕ) (one : TypedFunction) → holds one ≡ true → list_all holds functions ≡ true → list_all holds (slice_set functions number one) ≡ true
set-holds holds [] number one q p = refl
set-holds holds (f ∷ functions) zero one q p = both (holds one) _ q (right (holds f) _ p)
set-holds holds (f ∷ functions) (suc number) one q p = both (holds f) _ (left (holds f) _ p) (set-holds holds functions number one q (right (holds f) _ p))

pub if-holds : (holds : TypedFunction → Bool) (test : Bool) (functions : List TypedFunction) (number : ℕ) (one : TypedFunction) → holds one ≡ true → list_all holds functions ≡ true
    → list_all holds (if test then slice_set functions number one else functions) ≡ true
if-holds holds true functions number one q p = set-holds holds functions number one q p
if-holds holds false functions number one q p = p

pointing-parameter : (view : Bool) → view ≡ is_pointing (if view then kinds.View else kinds.Scalar)
pointing-parameter true = refl
pointing-parameter false = refl

module _ (source : Typed) (items : List Item) (Shaped : Kind → Object → Type 0) (sound : Seen → Bool) (clean : (s : Seen) → sound s ≡ true → Clean s) (shapes : Shapes Shaped sound) where
  -- ---- names

  pub file-near : (names : Names) (here : Here) (decls : List Decl) → Near source items Shaped names here → Within (after_objects here decls).objects source.objects → Each sound (seen_in_objects names 0 decls)
      → Near source items Shaped (scope.after_objects names 0 decls) (after_objects here decls)
  file-near names here [] near within p = near
  file-near names here (decl ∷ decls) near within p =
      let inside : Within (after_declared here None decl).objects source.objects = within-more _ _ _ (objects-grow (after_declared here None decl) decls) within in
      file-near (scope.after_declared names 0 decl) (after_declared here None decl) decls
      (declared-near source items Shaped sound shapes names here 0 decl false None near inside (object-sound source items Shaped sound shapes names 0 decl (earlier sound _ _ p))) within
      (later sound (seen_in_declared names 0 decl) _ p)

  named-near : (names : Names) (here : Here) (number : ℕ) (param : Param) (name : Option Named) → Near source items Shaped names here → Within (after_named here (parameter_of here number param) name).objects source.objects
      → Near source items Shaped (scope.after_named names (meaning_of_parameter param) name) (after_named here (parameter_of here number param) name)
  named-near names here number param None near within = still-near source items Shaped names here _ near
  named-near names here number param (Some named) near within =
      let one : Object = parameter_of here number param in
      record {
        seen_items = near.seen_items;
        seen_functions = near.seen_functions;
        tied_items = near.tied_items;
        agree = λ name. newest-agrees source items Shaped name (bytes_eq named.name name) (record { depth = 1; what = meaning_of_parameter param }) (record { depth = 0; what = tie_to (length here.objects) one })
            (meaning_of names.known name) (meaning_of here.known name) (callee_of name)
            (λ same. record {
              object = one;
              stands = stands-last here.objects source.objects one within;
              tied_as = refl;
              views = pointing-parameter (is_view param);
              widths = refl;
              consts = refl;
              shape = shapes.parameters param number _;
            })
            (near.agree name);
      }

  pub parameters-near : (names : Names) (here : Here) (number : ℕ) (params : List Param) → Near source items Shaped names here → Within (parameters_of here number params).after.objects source.objects
      → Near source items Shaped (after_parameters names params) (parameters_of here number params).after
  parameters-near names here number [] near within = near
  parameters-near names here number (param ∷ params) near within =
      parameters-near (scope.after_parameter names param) (after_parameter here number param) number params
      (named-near names here number param param.name near (within-more _ _ _ (parameters-grow (after_parameter here number param) number params) within)) within

  pub function-near : (names : Names) (here : Here) (item number : ℕ) (g : Function) → Near source items Shaped names here → IsFunction source items g.name.name item number
      → Near source items Shaped (seen_sources.after_function names item g) (record here { known = (g.name.name, record { depth = 0; what = ties.Function number item }) ∷ here.known })
  function-near names here item number g near f = record {
    seen_items = near.seen_items;
    seen_functions = near.seen_functions;
    tied_items = near.tied_items;
    agree = λ name. newest-agrees source items Shaped name (bytes_eq g.name.name name) (record { depth = 0; what = means.Function item }) (record { depth = 0; what = ties.Function number item })
        (meaning_of names.known name) (meaning_of here.known name) (callee_of name)
        (λ same. (subst (λ (n : List ℕ). IsFunction source items n item number) ((bytes_eq-Decides g.name.name name).0 same) f, refl))
        (near.agree name);
  }

  pub body-near : (names : Names) (s : Source) (number : ℕ) (g : Function) (body : Option Block) → Near source items Shaped names s.here → Near source items Shaped names (after_body s number g body).here
  body-near names s number g None near = near
  body-near names s number g (Some body) near = still-near source items Shaped names s.here _ near

  -- ---- functions

  module _ (test : Thing → Bool) (fits : Fits source items Shaped sound test) where
    abbrev holds : TypedFunction → Bool
    holds function = list_all test (in_function source function)

    body-holds : (names : Names) (s : Source) (number : ℕ) (g : Function) (body : Option Block) → Near source items Shaped names s.here → Within (after_body s number g body).here.objects source.objects
        → Each sound (seen_in_body (after_parameters names g.params) g body) → list_all holds s.functions ≡ true → list_all holds (after_body s number g body).functions ≡ true
    body-holds names s number g None near within p q = q
    body-holds names s number g (Some body) near within p q =
        let after : Here = (parameters_of s.here number g.params).after in
        let inside : Near source items Shaped (after_parameters names g.params) after =
        parameters-near names s.here number g.params near (within-more _ _ _ (block-grows body after (inside_of number g)) within) in
        if-holds holds (nat_lt number (length s.functions)) s.functions number _
        (block-stands source items Shaped sound clean shapes test fits body (after_parameters names g.params) after (inside_of number g) 1 false inside within p).all q

    items-stand : (s : Source) (names : Names) (before : List (Known Declaration)) (item : ℕ) (list : List Item) → Reached source items sound clean s names before item list → Near source items Shaped names s.here
        → list_all holds s.functions ≡ true → list_all holds (after_items s item list).functions ≡ true
    items-stand s names before item [] r near q = q
    items-stand s names before item (items_of.Objects list ∷ rest) r near q =
        let next : Reached source items sound clean (after_item s item (items_of.Objects list)) (seen_sources.after_item names item (items_of.Objects list)) before (item + 1) rest =
        next-reached source items sound clean s names before item (items_of.Objects list) rest r in
        items-stand (after_item s item (items_of.Objects list)) (seen_sources.after_item names item (items_of.Objects list)) before (item + 1) rest next
        (file-near names s.here list.decls near (within-source source items sound clean _ _ before (item + 1) rest next) (earlier sound _ _ r.sounds)) q
    items-stand s names before item (items_of.Function g ∷ rest) r near q =
        let own : Names = seen_sources.after_function names item g in
        let after : List (Known Declaration) = functions_after names.items before item (items_of.Function g) in
        let next : Reached source items sound clean (after_function s item g) own after (item + 1) rest = next-reached source items sound clean s names before item (items_of.Function g) rest r in
        let t : Steps source items sound clean s names before item g = steps source items sound clean s names before item g rest r in
        let f : IsFunction source items g.name.name item (number_of s g) =
        at-end source items sound clean (after_function s item g) own after (item + 1) rest next g.name.name (number_of s g) item g t.at (function-own source items sound clean s names before item g rest r) in
        let begun : Near source items Shaped own (after_declaration s item g).here = function-near names s.here item (number_of s g) g near f in
        let within : Within (after_function s item g).here.objects source.objects = within-source source items sound clean _ _ after (item + 1) rest next in
        let body : Each sound (seen_in_body (after_parameters own g.params) g g.body) =
        later sound (seen_in_parameters own (is_some g.body) g.params) _ (tail sound _ _ (tail sound _ _ (earlier sound (seen_in_function names before item g) _ r.sounds))) in
        items-stand (after_function s item g) own after (item + 1) rest next (body-near own (after_declaration s item g) (number_of s g) g g.body begun)
        (body-holds own (after_declaration s item g) (number_of s g) g g.body begun within body (added-or holds _ s.functions g refl q))
    items-stand s names before item (items_of.ExternFlag at ∷ rest) r near q =
        items-stand s names before (item + 1) rest (next-reached source items sound clean s names before item (items_of.ExternFlag at) rest r) near q

-- ---- the whole source

abbrev pub start_of : Program → Typed → Source
start_of program source = opening program.items (map token_of source.sites) (exposed_in [] (notes_of program))

abbrev pub names_at_start : Program → Names
names_at_start program = record { items = program.items; functions = functions_of program.items; known = [] }

pub start-near : (program : Program) (source : Typed) (Shaped : Kind → Object → Type 0) → Near source program.items Shaped (names_at_start program) (start_of program source).here
start-near program source Shaped = record { seen_items = refl; seen_functions = refl; tied_items = refl; agree = λ name. predefined-agrees source program.items Shaped name (callee_of name) (call-is-predefined name) }

pub reached : (program : Program) (source : Typed) (sound : Seen → Bool) (clean : (s : Seen) → sound s ≡ true → Clean s) → IsTied program source → list_all sound (seen_of program) ≡ true
    → Reached source program.items sound clean (start_of program source) (names_at_start program) [] 0 program.items
reached program source sound clean tied all = record {
  seen_items = refl;
  covers = λ name. Fresh refl (no-function name);
  objects = tied.objects;
  functions = tied.functions;
  declarations = refl;
  aligned = λ k. ap (slice_get program.items) (omega arith);
  sounds = earlier sound _ (end_of program ∷ []) (record { all = all });
}

pub stands-everywhere : (program : Program) (source : Typed) (Shaped : Kind → Object → Type 0) (sound : Seen → Bool) (clean : (s : Seen) → sound s ≡ true → Clean s) → Shapes Shaped sound → IsTied program source
    → list_all sound (seen_of program) ≡ true → (test : Thing → Bool) → Fits source program.items Shaped sound test → Everywhere source test
stands-everywhere program source Shaped sound clean shapes tied all test fits =
    all-flat (in_function source) test source.functions
    (ap (list_all (holds source program.items Shaped sound clean shapes test fits)) tied.functions
    ∙ items-stand source program.items Shaped sound clean shapes test fits (start_of program source) (names_at_start program) [] 0 program.items (reached program source sound clean tied all) (start-near program source Shaped) refl)
