-- Over the whole source views are given of the scalars that are exposed: item by item, in both walks.
use Rattle.std.proofs.Common.{◌≡◌, ℕ, zero, suc, ◌+◌, ◌<◌, List, [], ◌∷◌, Bool, true, false, length, refl, sym, ap, ◌∙◌, subst, arith, length-append}
use Rattle.std.specs.Prelude.{flat_map, Option, Some, None, is_some, ◌||◌, if◌then◌else◌, nat_lt, slice_get, slice_set}
use Rattle.std.proofs.lemmas.Bool.Decides.{nat_tests}
use Rattle.std.proofs.lemmas.Grind.{flat_map-append}
use Rattle.std.proofs.lemmas.List.{append-nil}
use Rattle.std.proofs.lemmas.List.Folds.{list_any-append}
use Rattle.std.proofs.lemmas.Option.{slice_get_within}
use Rattle.c_scopes.specs.Scopes.{Known}
use Rattle.c_tree.specs.declared.function.Function.{Function}
use Rattle.c_tree.specs.declared.program.Item.{Item}
use Rattle.c_tree.specs.declared.program.Item.TheVariants as items_of
use Rattle.c_tree.specs.declared.statement.Block.{Block}
use Rattle.c_typed.specs.declared.typed.Typed.{Typed}
use Rattle.c_typed.specs.declared.typed.TypedFunction.{TypedFunction}
use Rattle.c_seen.specs.declared.functions.Declaration.{Declaration}
use Rattle.c_seen.specs.Declarations.{seen_in_parameters, after_parameters}
use Rattle.c_seen.specs.Functions.{is_defined}
use Rattle.c_seen.specs.Meanings.{Names}
use Rattle.c_seen.specs.Sources as seen_sources
use Rattle.c_seen.specs.Sources.{functions_after, seen_in_body, seen_in_function}
use Rattle.tied_names.specs.declared.tie.Tie.TheVariants as ties
use Rattle.tied_names.specs.Numbers.{is_exposed}
use Rattle.tied_names.specs.Ties.{Here, tie_of, declaring}
use Rattle.c_types.specs.Sources.{Source, function_number, functions_or, number_or, number_of, declared, defined, defining, parameters_of, inside_of, body_of, after_declaration, after_body, after_function, after_item, after_items}
use Rattle.lawful_sources.specs.Statements.{in_body, in_function}
use Rattle.lawful_sources.proofs.Passing.{Each}
use Rattle.lawful_laws.proofs.Statements.{earlier, later, tail}
use Rattle.lawful_names.proofs.Agreement.{IsFunction}
use Rattle.lawful_names.proofs.Keeping.{Entry, entry-of}
use Rattle.lawful_names.proofs.OwnFew.{first-definition}
use Rattle.lawful_names.proofs.Reached.{Reached, state_of, within-source, Steps, steps, function-own, next-reached, at-end}
use Rattle.lawful_names.proofs.Shapes.{Shaped, is_sound, sound-clean, sound-shapes}
use Rattle.lawful_names.proofs.Sources.{file-near, parameters-near, function-near, body-near}
use Rattle.lawful_names.proofs.Within.{Within, within-more, block-grows}
use Rattle.lawful_objects.proofs.Exposing.{first, exposing, exposes, giving, gives}
use Rattle.lawful_objects.proofs.ExposingExpressions.{Close}
use Rattle.lawful_objects.proofs.ExposingStatements.{Goes, block-goes}
use Rattle.lawful_objects.proofs.Walks.{Both, still-both, both-objects, both-parameters}

set-length : (functions : List TypedFunction) (number : ℕ) (one : TypedFunction) → length (slice_set functions number one) ≡ length functions
set-length [] number one = refl
set-length (f ∷ functions) zero one = refl
set-length (f ∷ functions) (suc number) one = ap suc (set-length functions number one)

defining-length : (test : Bool) (functions : List TypedFunction) (number : ℕ) (one : TypedFunction) → length (if test then slice_set functions number one else functions) ≡ length functions
defining-length true functions number one = set-length functions number one
defining-length false functions number one = refl

or-length : (o : Option ℕ) (ones functions : List TypedFunction) (g : Function) → length ones ≡ length functions → length (functions_or o ones g) ≡ length (functions_or o functions g)
or-length None ones functions g p = length-append ones (declared g ∷ []) ∙ ap (λ (n : ℕ). n + 1) p ∙ sym (length-append functions (declared g ∷ []))
or-length (Some number) ones functions g p = p

defines : (functions : List TypedFunction) (number : ℕ) (one typed : TypedFunction) → slice_get functions number ≡ Some typed → defining functions number one ≡ slice_set functions number one
defines functions number one typed p =
    let less : number < length functions = slice_get_within functions number typed p in
    let within : nat_lt number (length functions) ≡ true = grind (arith, nat_tests) in rw within refl

-- one more among those before or after others
or-between : (a b c : Bool) → (a || (b || c)) ≡ ((a || b) || c)
or-between true b c = refl
or-between false b c = refl

or-last : (a b : Bool) → (a || b) ≡ (b || a)
or-last true true = refl
or-last true false = refl
or-last false true = refl
or-last false false = refl

module _ (source : Typed) (items : List Item) (exposed : List ℕ) where
  -- a view of the object of this number is given in some function
  abbrev given : List TypedFunction → ℕ → Bool
  given functions n = is_exposed (gives source (flat_map (in_function source) functions)) n

  -- it is given in one function
  abbrev given_in : TypedFunction → ℕ → Bool
  given_in function n = is_exposed (gives source (in_function source function)) n

  given-next : (f : TypedFunction) (functions : List TypedFunction) (n : ℕ) → given (f ∷ functions) n ≡ (given_in f n || given functions n)
  given-next f functions n = ap (λ (l : List ℕ). is_exposed l n) (flat_map-append (giving source) (in_function source f) (flat_map (in_function source) functions)) ∙ list_any-append _ (gives source (in_function source f)) _

  given-set : (functions : List TypedFunction) (number : ℕ) (one typed : TypedFunction) (n : ℕ) → slice_get functions number ≡ Some typed → given_in typed n ≡ false → given (slice_set functions number one) n ≡ (given functions n || given_in one n)
  given-set [] number one typed n p q = cc
  given-set (f ∷ functions) zero one typed n p q =
      let same : f ≡ typed = cc in
      given-next one functions n ∙ or-last (given_in one n) _ ∙ ap (λ (b : Bool). (b || given functions n) || given_in one n) (sym q ∙ ap (λ (t : TypedFunction). given_in t n) (sym same)) ∙ ap (λ (b : Bool). b || given_in one n) (sym (given-next f functions n))
  given-set (f ∷ functions) (suc number) one typed n p q =
      given-next f (slice_set functions number one) n ∙ ap (λ (b : Bool). given_in f n || b) (given-set functions number one typed n p q) ∙ or-between (given_in f n) _ _ ∙ ap (λ (b : Bool). b || given_in one n) (sym (given-next f functions n))

  given-or : (o : Option ℕ) (functions : List TypedFunction) (g : Function) (n : ℕ) → given (functions_or o functions g) n ≡ given functions n
  given-or None functions g n =
      ap (λ (l : List _). is_exposed (gives source l) n) (flat_map-append (in_function source) functions (declared g ∷ []) ∙ append-nil (flat_map (in_function source) functions))
  given-or (Some number) functions g n = refl

  no-body : (function : TypedFunction) (n : ℕ) → is_some function.body ≡ false → given_in function n ≡ false
  no-body function n p = none function.body p
    where
      none : (body : Option _) → is_some body ≡ false → is_exposed (gives source (in_body source function.gives body)) n ≡ false
      none None q = refl
      none (Some body) q = cc

  -- both walks after as many items
  pub record Alike (one s : Source) : Type 0 where
    pub both : Both exposed one.here s.here
    pub many : length one.functions ≡ length s.functions
    pub told : (n : ℕ) → is_exposed (exposes one.notes) n ≡ given s.functions n

  -- ---- a function

  number-alike : (one s : Source) (g : Function) → Alike one s → number_of one g ≡ number_of s g
  number-alike one s g a =
      ap (λ (h : Here). number_or (function_number (tie_of h g.name.name)) (length one.functions)) a.both.is ∙ ap (number_or (function_number (tie_of s.here g.name.name))) a.many

  declared-alike : (one s : Source) (item : ℕ) (g : Function) → Alike one s → Alike (after_declaration one item g) (after_declaration s item g)
  declared-alike one s item g a = record {
    both = record {
      objects = a.both.objects;
      is = ap (λ (h : Here). declaring h g.name.name (ties.Function (number_of one g) item)) a.both.is
          ∙ ap (λ (n : ℕ). first a.both.objects (declaring s.here g.name.name (ties.Function n item))) (number-alike one s g a);
      marks = a.both.marks;
      grown = a.both.grown;
    };
    many = ap (λ (h : Here). length (functions_or (function_number (tie_of h g.name.name)) one.functions g)) a.both.is
        ∙ or-length (function_number (tie_of s.here g.name.name)) one.functions s.functions g a.many;
    told = λ n. a.told n ∙ sym (given-or (function_number (tie_of s.here g.name.name)) s.functions g n);
  }

  body-alike : (names : Names) (one s : Source) (number : ℕ) (g : Function) (body : Option Block) (typed : TypedFunction) → slice_get s.functions number ≡ Some typed → (is_some body ≡ true → is_some typed.body ≡ false)
      → Close source items names s.here → Within (after_body s number g body).here.objects source.objects → Each is_sound (seen_in_body (after_parameters names g.params) g body) → Alike one s
      → Alike (after_body one number g body) (after_body s number g body)
  body-alike names one s number g None typed stands fresh near within p a = a
  body-alike names one s number g (Some body) typed stands fresh near within p a =
      let after : Here = (parameters_of s.here number g.params).after in
      let after_one : Here = (parameters_of one.here number g.params).after in
      let whole : TypedFunction = defined g (parameters_of s.here number g.params).numbers (body_of s number g body).value in
      let inside : Close source items (after_parameters names g.params) after =
      parameters-near source items Shaped is_sound sound-clean sound-shapes names s.here number g.params near (within-more _ _ _ (block-grows body after (inside_of number g)) within) in
      let goes : Goes source items exposed (body_of one number g body).objects (body_of s number g body).objects (body_of one number g body).notes (in_function source whole) =
      block-goes source items exposed body (after_parameters names g.params) after_one after (inside_of number g) 1 false inside (both-parameters exposed one.here s.here number g.params a.both) within p in
      record {
        both = still-both exposed one.here s.here _ _ a.both goes.grown;
        many = defining-length (nat_lt number (length one.functions)) one.functions number _ ∙ a.many ∙ sym (defining-length (nat_lt number (length s.functions)) s.functions number whole);
        told = λ n. ap (λ (l : List ℕ). is_exposed l n) (flat_map-append exposing one.notes (body_of one number g body).notes) ∙ list_any-append _ (exposes one.notes) _
            ∙ ap (λ (b : Bool). b || is_exposed (exposes (body_of one number g body).notes) n) (a.told n) ∙ ap (λ (l : List ℕ). given s.functions n || is_exposed l n) goes.exposes.is
            ∙ sym (ap (λ (l : List TypedFunction). given l n) (defines s.functions number whole typed stands) ∙ given-set s.functions number whole typed n stands (no-body typed n (fresh refl)));
      }

  function-alike : (one s : Source) (names : Names) (before : List (Known Declaration)) (item : ℕ) (g : Function) (rest : List Item) → Reached source items is_sound sound-clean s names before item (items_of.Function g ∷ rest)
      → Close source items (seen_sources.after_function names item g) (after_declaration s item g).here → Within (after_function s item g).here.objects source.objects → Alike one s → Alike (after_function one item g) (after_function s item g)
  function-alike one s names before item g rest r near within a =
      let own : Names = seen_sources.after_function names item g in
      let t : Steps source items is_sound sound-clean s names before item g = steps source items is_sound sound-clean s names before item g rest r in
      let e : Entry source items g.name.name g (number_of s g) (after_declaration s item g).functions (is_defined before g.name.name) = entry-of source items g (state_of names s.here before s.functions) t.tells (r.covers g.name.name) in
      let body : Each is_sound (seen_in_body (after_parameters own g.params) g g.body) =
      later is_sound (seen_in_parameters own (is_some g.body) g.params) _ (tail is_sound _ _ (tail is_sound _ _ (earlier is_sound (seen_in_function names before item g) _ r.sounds))) in
      subst (λ (n : ℕ). Alike (after_body (after_declaration one item g) n g g.body) (after_function s item g)) (sym (number-alike one s g a))
      (body-alike own (after_declaration one item g) (after_declaration s item g) (number_of s g) g g.body e.typed e.stands
      (λ b. e.complete ∙ first-definition (is_some g.body) (is_defined before g.name.name) g.name.at b t.tells.second) near within body (declared-alike one s item g a))

  pub items-alike : (one s : Source) (names : Names) (before : List (Known Declaration)) (item : ℕ) (list : List Item) → Reached source items is_sound sound-clean s names before item list → Close source items names s.here
      → Alike one s → Alike (after_items one item list) (after_items s item list)
  items-alike one s names before item [] r near a = a
  items-alike one s names before item (items_of.Objects list ∷ rest) r near a =
      let next : Reached source items is_sound sound-clean (after_item s item (items_of.Objects list)) (seen_sources.after_item names item (items_of.Objects list)) before (item + 1) rest =
      next-reached source items is_sound sound-clean s names before item (items_of.Objects list) rest r in
      items-alike (after_item one item (items_of.Objects list)) (after_item s item (items_of.Objects list)) (seen_sources.after_item names item (items_of.Objects list)) before (item + 1) rest next
      (file-near source items Shaped is_sound sound-clean sound-shapes names s.here list.decls near (within-source source items is_sound sound-clean _ _ before (item + 1) rest next) (earlier is_sound _ _ r.sounds))
      (record { both = both-objects exposed one.here s.here list.decls a.both; many = a.many; told = a.told })
  items-alike one s names before item (items_of.Function g ∷ rest) r near a =
      let own : Names = seen_sources.after_function names item g in
      let after : List (Known Declaration) = functions_after names.items before item (items_of.Function g) in
      let next : Reached source items is_sound sound-clean (after_function s item g) own after (item + 1) rest = next-reached source items is_sound sound-clean s names before item (items_of.Function g) rest r in
      let t : Steps source items is_sound sound-clean s names before item g = steps source items is_sound sound-clean s names before item g rest r in
      let f : IsFunction source items g.name.name item (number_of s g) =
      at-end source items is_sound sound-clean (after_function s item g) own after (item + 1) rest next g.name.name (number_of s g) item g t.at (function-own source items is_sound sound-clean s names before item g rest r) in
      let begun : Close source items own (after_declaration s item g).here = function-near source items Shaped is_sound sound-clean sound-shapes names s.here item (number_of s g) g near f in
      items-alike (after_function one item g) (after_function s item g) own after (item + 1) rest next
      (body-near source items Shaped is_sound sound-clean sound-shapes own (after_declaration s item g) (number_of s g) g g.body begun)
      (function-alike one s names before item g rest r begun (within-source source items is_sound sound-clean _ _ after (item + 1) rest next) a)
  items-alike one s names before item (items_of.ExternFlag at ∷ rest) r near a =
      items-alike one s names before (item + 1) rest (next-reached source items is_sound sound-clean s names before item (items_of.ExternFlag at) rest r) near a
