-- The sites that stand in a source without a fault are those that are noted in it, but for their order: item by item.
use Rattle.std.proofs.Common.{◌≡◌, ℕ, ◌+◌, List, [], ◌∷◌, ◌++◌, Bool, true, false, map, length, refl, sym, ap, ◌∙◌, subst}
use Rattle.std.specs.Prelude.{flat_map, nat_lt, slice_get, Option, Some, None, is_some}
use Rattle.std.specs.List.{list_all}
use Rattle.std.specs.List.Sorted.{IsPermutation}
use Rattle.std.proofs.lemmas.Grind.{flat_map-append}
use Rattle.std.proofs.lemmas.List.{map-append}
use Rattle.std.proofs.lemmas.List.Sorted.{IsPermutation-refl, IsPermutation-trans, IsPermutation-append_left}
use Rattle.c_scopes.specs.Scopes.{Known}
use Rattle.c_tree.specs.declared.function.Function.{Function}
use Rattle.c_tree.specs.declared.program.Item.{Item}
use Rattle.c_tree.specs.declared.program.Item.TheVariants as items_of
use Rattle.c_tree.specs.declared.program.Program.{Program}
use Rattle.c_tree.specs.declared.statement.Block.{Block}
use Rattle.c_typed.specs.declared.statement.TypedBlock.{TypedBlock}
use Rattle.c_typed.specs.declared.typed.Typed.{Typed}
use Rattle.c_typed.specs.declared.typed.TypedFunction.{TypedFunction}
use Rattle.operator_meaning.specs.declared.object.Object.{Object}
use Rattle.operator_meaning.specs.declared.object.Site.{Site}
use Rattle.c_seen.specs.declared.functions.Declaration.{Declaration}
use Rattle.c_seen.specs.declared.seen.Kind.{Kind}
use Rattle.c_seen.specs.declared.seen.Seen.{Seen}
use Rattle.c_seen.specs.Declarations.{seen_in_parameters, after_parameters}
use Rattle.c_seen.specs.Functions.{is_defined}
use Rattle.c_seen.specs.Meanings.{Names}
use Rattle.c_seen.specs.Sources as seen_sources
use Rattle.c_seen.specs.Sources.{seen_in_body, seen_in_function, seen_of, functions_after}
use Rattle.tied_names.specs.declared.tie.Tie.{Tie}
use Rattle.tied_names.specs.declared.tie.Tie.TheVariants as ties
use Rattle.tied_names.specs.Numbers.{sites_in, token_of}
use Rattle.tied_names.specs.Ties.{Here, tie_of}
use Rattle.c_types.specs.Sources.{Source, function_number, functions_or, number_or, number_of, defined, body_of, parameters_of, inside_of, after_declaration, after_body, after_function, after_item, after_items, opening}
use Rattle.c_types.specs.Tied.{IsTied, notes_of}
use Rattle.lawful_sources.specs.Statements.{in_body, in_function, in_source}
use Rattle.lawful_sources.proofs.Passing.{Each}
use Rattle.lawful_laws.proofs.Functions.{all-flat}
use Rattle.lawful_laws.proofs.Statements.{earlier, later, tail}
use Rattle.lawful_names.proofs.Agreement.{IsFunction, Near}
use Rattle.lawful_names.proofs.Clean.{Clean}
use Rattle.lawful_names.proofs.Declarations.{Shapes}
use Rattle.lawful_names.proofs.Keeping.{Entry, entry-of}
use Rattle.lawful_names.proofs.OwnFew.{first-definition}
use Rattle.lawful_names.proofs.Reached.{Reached, state_of, within-source, Steps, steps, function-own, next-reached, at-end}
use Rattle.lawful_names.proofs.Sources.{added-or, if-holds, file-near, parameters-near, function-near, body-near, start_of, names_at_start, start-near, reached}
use Rattle.lawful_names.proofs.Within.{Within, within-more, block-grows}
use Rattle.lawful_sites.proofs.Functions.{defining-long, declared-long, nothing-there, defining-standing, declared-standing}
use Rattle.lawful_sites.proofs.Marks.{Keeps}
use Rattle.lawful_sites.proofs.Sited.{sites-append, keyed, is_numbered}
use Rattle.lawful_sites.proofs.Statements.{block-goes}
use Rattle.lawful_sites.proofs.Twins.{Twins, tie-same, twins-with, twins-name, twins-objects, twins-parameters}

module _ (source : Typed) (items : List Item) (Shaped : Kind → Object → Type 0) (sound : Seen → Bool) (clean : (s : Seen) → sound s ≡ true → Clean s) (shapes : Shapes Shaped sound)
    {K : Type 0} (key : Site → K) (tokens : List ℕ) (keeps : Keeps key source items Shaped sound) where
  abbrev keys_of : TypedFunction → List K
  keys_of function = flat_map (keyed key) (in_function source function)

  abbrev numbered_in : TypedFunction → Bool
  numbered_in function = list_all (is_numbered tokens) (in_function source function)

  -- what holds after some items: the functions are made at the one place, and the notes at the other
  pub record Stand (s t : Source) : Type 0 where
    pub twins : Twins tokens s.here t.here
    pub long : length t.functions ≡ length s.functions
    pub sites : IsPermutation (flat_map keys_of s.functions) (map key (sites_in t.notes))
    pub numbered : list_all numbered_in s.functions ≡ true

  number-same : (s t : Source) (g : Function) → Stand s t → number_of t g ≡ number_of s g
  number-same s t g stand =
      ap (λ (o : Option Tie). number_or (function_number o) (length t.functions)) (tie-same tokens s.here t.here stand.twins g.name.name)
      ∙ ap (number_or (function_number (tie_of s.here g.name.name))) stand.long

  declared-stand : (s t : Source) (item : ℕ) (g : Function) → Stand s t → Stand (after_declaration s item g) (after_declaration t item g)
  declared-stand s t item g stand = record {
    twins = twins-name tokens s.here t.here g.name.name _ _ stand.twins (ap (λ (n : ℕ). ties.Function n item) (number-same s t g stand));
    long = ap (λ (o : Option Tie). length (functions_or (function_number o) t.functions g)) (tie-same tokens s.here t.here stand.twins g.name.name)
        ∙ declared-long (function_number (tie_of s.here g.name.name)) s.functions t.functions g stand.long;
    sites = subst (λ (l : List K). IsPermutation l (map key (sites_in t.notes))) (sym (declared-standing keys_of (function_number (tie_of s.here g.name.name)) s.functions g refl)) stand.sites;
    numbered = added-or numbered_in (function_number (tie_of s.here g.name.name)) s.functions g refl stand.numbered;
  }

  body-stand : (names : Names) (s t : Source) (number : ℕ) (g : Function) (body : Option Block) (old : TypedFunction) → Near source items Shaped names s.here → Stand s t → slice_get s.functions number ≡ Some old → (is_some body ≡ true → old.body ≡ None)
      → Within (after_body s number g body).here.objects source.objects → Each sound (seen_in_body (after_parameters names g.params) g body) → Stand (after_body s number g body) (after_body t number g body)
  body-stand names s t number g None old near stand at bare within p = stand
  body-stand names s t number g (Some body) old near stand at bare within p =
      let here : Here = (parameters_of s.here number g.params).after in
      let other : Here = (parameters_of t.here number g.params).after in
      let one : TypedFunction = defined g (parameters_of s.here number g.params).numbers (body_of s number g body).value in
      let inside : Near source items Shaped (after_parameters names g.params) here =
      parameters-near source items Shaped sound clean shapes names s.here number g.params near (within-more _ _ _ (block-grows body here (inside_of number g)) within) in
      let goes = block-goes source items Shaped sound clean shapes key tokens keeps body (after_parameters names g.params) here other (inside_of number g) 1 false inside (twins-parameters tokens s.here t.here number g.params stand.twins) within p in
      let all : map key (sites_in (t.notes ++ (body_of t number g body).notes)) ≡ map key (sites_in t.notes) ++ keys_of one =
      ap (map key) (sites-append t.notes (body_of t number g body).notes) ∙ map-append key (sites_in t.notes) (sites_in (body_of t number g body).notes) ∙ ap (λ (l : List K). map key (sites_in t.notes) ++ l) (sym goes.sites.sites) in record {
        twins = twins-with tokens s.here t.here _ _ stand.twins goes.long;
        long = defining-long t.functions number _ ∙ stand.long ∙ sym (defining-long s.functions number _);
        sites = subst (λ (l : List K). IsPermutation (flat_map keys_of (after_body s number g (Some body)).functions) l) (sym all)
            (IsPermutation-trans _ _ _ (defining-standing keys_of s.functions number old one at (ap (λ (b : Option TypedBlock). flat_map (keyed key) (in_body source old.gives b)) (bare refl)))
            (IsPermutation-append_left (keys_of one) _ _ stand.sites));
        numbered = if-holds numbered_in (nat_lt number (length s.functions)) s.functions number one goes.sites.numbered.all stand.numbered;
      }

  function-stand : (s t : Source) (names : Names) (before : List (Known Declaration)) (item : ℕ) (g : Function) (rest : List Item) → Reached source items sound clean s names before item (items_of.Function g ∷ rest)
      → Near source items Shaped (seen_sources.after_function names item g) (after_declaration s item g).here → Stand s t → Stand (after_function s item g) (after_function t item g)
  function-stand s t names before item g rest r near stand =
      let own : Names = seen_sources.after_function names item g in
      let after : List (Known Declaration) = functions_after names.items before item (items_of.Function g) in
      let told : Steps source items sound clean s names before item g = steps source items sound clean s names before item g rest r in
      let e : Entry source items g.name.name g (number_of s g) (after_declaration s item g).functions (is_defined before g.name.name) = entry-of source items g (state_of names s.here before s.functions) told.tells (r.covers g.name.name) in
      let within : Within (after_function s item g).here.objects source.objects = within-source source items sound clean _ _ after (item + 1) rest (next-reached source items sound clean s names before item (items_of.Function g) rest r) in
      let body : Each sound (seen_in_body (after_parameters own g.params) g g.body) =
      later sound (seen_in_parameters own (is_some g.body) g.params) _ (tail sound _ _ (tail sound _ _ (earlier sound (seen_in_function names before item g) _ r.sounds))) in
      subst (λ (n : ℕ). Stand (after_function s item g) (after_body (after_declaration t item g) n g g.body)) (sym (number-same s t g stand))
      (body-stand own (after_declaration s item g) (after_declaration t item g) (number_of s g) g g.body e.typed near (declared-stand s t item g stand) e.stands
      (λ b. nothing-there e.typed.body (e.complete ∙ first-definition (is_some g.body) _ g.name.at b told.tells.second)) within body)

  items-stand : (s t : Source) (names : Names) (before : List (Known Declaration)) (item : ℕ) (list : List Item) → Reached source items sound clean s names before item list → Near source items Shaped names s.here
      → Stand s t → Stand (after_items s item list) (after_items t item list)
  items-stand s t names before item [] r near stand = stand
  items-stand s t names before item (items_of.Objects list ∷ rest) r near stand =
      let next : Reached source items sound clean (after_item s item (items_of.Objects list)) (seen_sources.after_item names item (items_of.Objects list)) before (item + 1) rest =
      next-reached source items sound clean s names before item (items_of.Objects list) rest r in
      items-stand (after_item s item (items_of.Objects list)) (after_item t item (items_of.Objects list)) (seen_sources.after_item names item (items_of.Objects list)) before (item + 1) rest next
      (file-near source items Shaped sound clean shapes names s.here list.decls near (within-source source items sound clean _ _ before (item + 1) rest next) (earlier sound _ _ r.sounds))
      (record { twins = twins-objects tokens s.here t.here list.decls stand.twins; long = stand.long; sites = stand.sites; numbered = stand.numbered })
  items-stand s t names before item (items_of.Function g ∷ rest) r near stand =
      let own : Names = seen_sources.after_function names item g in
      let after : List (Known Declaration) = functions_after names.items before item (items_of.Function g) in
      let next : Reached source items sound clean (after_function s item g) own after (item + 1) rest = next-reached source items sound clean s names before item (items_of.Function g) rest r in
      let told : Steps source items sound clean s names before item g = steps source items sound clean s names before item g rest r in
      let f : IsFunction source items g.name.name item (number_of s g) =
      at-end source items sound clean (after_function s item g) own after (item + 1) rest next g.name.name (number_of s g) item g told.at (function-own source items sound clean s names before item g rest r) in
      let begun : Near source items Shaped own (after_declaration s item g).here = function-near source items Shaped sound clean shapes names s.here item (number_of s g) g near f in
      items-stand (after_function s item g) (after_function t item g) own after (item + 1) rest next (body-near source items Shaped sound clean shapes own (after_declaration s item g) (number_of s g) g g.body begun)
      (function-stand s t names before item g rest r begun stand)
  items-stand s t names before item (items_of.ExternFlag at ∷ rest) r near stand =
      items-stand s t names before (item + 1) rest (next-reached source items sound clean s names before item (items_of.ExternFlag at) rest r) near stand

  -- ---- the whole source

  flat-keys : (functions : List TypedFunction) → flat_map (keyed key) (flat_map (in_function source) functions) ≡ flat_map keys_of functions
  flat-keys [] = refl
  flat-keys (f ∷ functions) = flat_map-append (keyed key) (in_function source f) (flat_map (in_function source) functions) ∙ ap (λ (l : List K). keys_of f ++ l) (flat-keys functions)

-- the sites that stand in a source are those that are noted in it, and have the numbers of their tokens
pub record Standing {K : Type 0} (key : Site → K) (program : Program) (source : Typed) : Type 0 where
  pub sites : IsPermutation (flat_map (keyed key) (in_source source)) (map key (sites_in (notes_of program)))
  pub numbered : list_all (is_numbered (map token_of source.sites)) (in_source source) ≡ true

pub sites-stand : {K : Type 0} (key : Site → K) (program : Program) (source : Typed) (Shaped : Kind → Object → Type 0) (sound : Seen → Bool) (clean : (s : Seen) → sound s ≡ true → Clean s) → Shapes Shaped sound → Keeps key source program.items Shaped sound
    → IsTied program source → list_all sound (seen_of program) ≡ true → Standing key program source
sites-stand {K} key program source Shaped sound clean shapes keeps tied all =
    let tokens : List ℕ = map token_of source.sites in
    let start : Stand source program.items Shaped sound clean shapes key tokens keeps (start_of program source) (opening program.items [] []) =
    record { twins = record { numbers = refl; items = refl; known = refl; objects = refl }; long = refl; sites = IsPermutation-refl []; numbered = refl } in
    let end = items-stand source program.items Shaped sound clean shapes key tokens keeps (start_of program source) (opening program.items [] []) (names_at_start program) [] 0 program.items
    (reached program source sound clean tied all) (start-near program source Shaped) start in record {
      sites = subst (λ (l : List K). IsPermutation l (map key (sites_in (notes_of program))))
          (ap (flat_map (keys_of source program.items Shaped sound clean shapes key tokens keeps)) (sym tied.functions) ∙ sym (flat-keys source program.items Shaped sound clean shapes key tokens keeps source.functions)) end.sites;
      numbered = all-flat (in_function source) (is_numbered tokens) source.functions
          (ap (list_all (numbered_in source program.items Shaped sound clean shapes key tokens keeps)) tied.functions ∙ end.numbered);
    }
