-- The objects of a function are its parameters, and then those of its blocks, with no other object between them: item by
-- item, since a function is defined at most once.
use Rattle.std.proofs.Common.{◌≡◌, ℕ, zero, suc, ◌+◌, List, [], ◌∷◌, ◌++◌, Bool, true, false, length, refl, sym, ap, ◌∙◌, subst, arith}
use Rattle.std.specs.Prelude.{Option, Some, None, is_some, is_none, ◌&&◌, ◌==◌, if◌then◌else◌, nat_lt, slice_get}
use Rattle.std.specs.List.{list_all}
use Rattle.std.proofs.lemmas.Bool.{eqb-true, eq-eqb}
use Rattle.std.proofs.lemmas.List.{append-nil}
use Rattle.sat_base.specs.declared.name.At.{At}
use Rattle.sat_base.specs.declared.name.Named.{Named}
use Rattle.sat_base.specs.declared.width.Width.{Width}
use Rattle.c_scopes.specs.Scopes.{Known}
use Rattle.c_tree.specs.declared.declaration.Decl.{Decl}
use Rattle.c_tree.specs.declared.function.Function.{Function}
use Rattle.c_tree.specs.declared.function.Param.{Param}
use Rattle.c_tree.specs.declared.program.Item.{Item}
use Rattle.c_tree.specs.declared.program.Item.TheVariants as items_of
use Rattle.c_tree.specs.declared.program.Program.{Program}
use Rattle.c_tree.specs.declared.statement.Block.{Block}
use Rattle.c_typed.specs.declared.statement.TypedBlock.{TypedBlock}
use Rattle.c_typed.specs.declared.typed.Typed.{Typed}
use Rattle.c_typed.specs.declared.typed.TypedFunction.{TypedFunction}
use Rattle.operator_meaning.specs.declared.object.Object.{Object}
use Rattle.c_seen.specs.declared.functions.Declaration.{Declaration}
use Rattle.c_seen.specs.declared.seen.Seen.{Seen}
use Rattle.c_seen.specs.Functions.{is_defined}
use Rattle.c_seen.specs.Meanings.{Names}
use Rattle.c_seen.specs.Sources as seen_sources
use Rattle.c_seen.specs.Sources.{functions_after}
use Rattle.tied_names.specs.Ties.{Here}
use Rattle.tied_statements.specs.Declarations.{after_declared, after_objects}
use Rattle.c_types.specs.Sources.{Source, number_of, functions_or, declared, defined, parameter_of, after_named, after_parameter, parameters_of, inside_of, body_of, after_declaration, after_body, after_function, after_item, after_items}
use Rattle.c_types.specs.Tied.{IsTyped}
use Rattle.lawful_sources.specs.Lawful.{is_whole, DeclaresItsOwn}
use Rattle.lawful_sources.specs.Objects.{own_from, follow_one_another, begun_in, is_complete}
use Rattle.lawful_sources.specs.Statements.{in_body, in_function}
use Rattle.lawful_laws.proofs.Functions.{left, right}
use Rattle.lawful_names.proofs.Clean.{Clean, is_clean, when-clean}
use Rattle.lawful_names.proofs.Defining.{get-defined}
use Rattle.lawful_names.proofs.Faultless.{seen-clean}
use Rattle.lawful_names.proofs.Keeping.{Entry, entry-of, get-if}
use Rattle.lawful_names.proofs.OwnFew.{first-definition}
use Rattle.lawful_names.proofs.Parameters.{functions-hold}
use Rattle.lawful_names.proofs.Reached.{Reached, state_of, Steps, steps, next-reached}
use Rattle.lawful_names.proofs.Sources.{reached, start_of, names_at_start}
use Rattle.lawful_names.proofs.Truths.{both-ways}
use Rattle.lawful_objects.proofs.Adding.{own, if_own, own-outside, Adds, adds-nothing, adds-one, adds-more, numbers-follow}
use Rattle.lawful_objects.proofs.Beginning.{block-begins}

-- ---- lists of functions

holds-at : (holds : TypedFunction → Bool) (functions : List TypedFunction) (number : ℕ) (function : TypedFunction) → list_all holds functions ≡ true → slice_get functions number ≡ Some function → holds function ≡ true
holds-at holds [] number function p q = cc
holds-at holds (f ∷ functions) zero function p q = let same : f ≡ function = some-is f function q in ap holds (sym same) ∙ left (holds f) _ p
  where
    some-is : (x y : TypedFunction) → Some x ≡ Some y → x ≡ y
    some-is x y r = cc
holds-at holds (f ∷ functions) (suc number) function p q = holds-at holds functions number function (right (holds f) _ p) q

-- ---- parameters

module _ (function number : ℕ) where
  named-adds : (here : Here) (one : Object) (name : Option Named) → one.function ≡ Some number → Adds function number here.objects (after_named here one name).objects (length here.objects ∷ [])
  named-adds here one None p = adds-one function number here.objects one p
  named-adds here one (Some name) p = adds-one function number here.objects one p

  parameters-add : (here : Here) (params : List Param) → Adds function number here.objects (parameters_of here number params).after.objects (parameters_of here number params).numbers
  parameters-add here [] = adds-nothing function number here.objects
  parameters-add here (param ∷ params) =
      adds-more function number _ _ _ (length here.objects ∷ []) _ (named-adds here (parameter_of here number param) param.name refl) (parameters-add (after_parameter here number param) params)

module _ (source : Typed) where
  -- what a function that is complete declares
  abbrev declares : Option TypedFunction → List ℕ
  declares None = []
  declares (Some function) = if is_some function.body then function.params ++ begun_in (in_function source function) else []

  -- these are the objects of a function, and they follow one another
  record Declared (numbers objects : List ℕ) : Type 0 where
    is : numbers ≡ objects
    row : follow_one_another objects ≡ true

  abbrev DeclaresAll : List TypedFunction → List Object → Type 0
  DeclaresAll functions objects = (n : ℕ) → Declared (declares (slice_get functions n)) (own n objects)

  alike : (xs ys objects others : List ℕ) → xs ≡ ys → objects ≡ others → Declared ys objects → Declared xs others
  alike xs ys objects others p q d = record { is = p ∙ d.is ∙ q; row = subst (λ (l : List ℕ). follow_one_another l ≡ true) q d.row }

  incomplete : (function : Option TypedFunction) → is_complete function ≡ false → declares function ≡ []
  incomplete None p = refl
  incomplete (Some function) p = ap (λ (b : Bool). if b then function.params ++ begun_in (in_function source function) else []) p

  added-alike : (functions : List TypedFunction) (g : Function) (n : ℕ) → declares (slice_get (functions ++ declared g ∷ []) n) ≡ declares (slice_get functions n)
  added-alike [] g zero = refl
  added-alike [] g (suc n) = refl
  added-alike (f ∷ functions) g zero = refl
  added-alike (f ∷ functions) g (suc n) = added-alike functions g n

  or-alike : (o : Option ℕ) (functions : List TypedFunction) (g : Function) (n : ℕ) → declares (slice_get (functions_or o functions g) n) ≡ declares (slice_get functions n)
  or-alike None functions g n = added-alike functions g n
  or-alike (Some number) functions g n = refl

  outside-alike : (here : Here) (decls : List Decl) (n : ℕ) → own n (after_objects here decls).objects ≡ own n here.objects
  outside-alike here [] n = refl
  outside-alike here (decl ∷ decls) n = outside-alike (after_declared here None decl) decls n ∙ own-outside n here.objects _ refl

  -- ---- a function

  mine : (same : Bool) (before after numbers : List ℕ) → same ≡ true → before ≡ [] → after ≡ before ++ if_own same numbers → follow_one_another numbers ≡ true → Declared numbers after
  mine true before after numbers p q r row = alike numbers numbers numbers after refl (sym (r ∙ ap (λ (l : List ℕ). l ++ numbers) q)) (record { is = refl; row = row })
  mine false before after numbers p q r row = cc

  others : (same : Bool) (before after numbers : List ℕ) → same ≡ false → after ≡ before ++ if_own same numbers → before ≡ after
  others true before after numbers p r = cc
  others false before after numbers p r = sym (r ∙ append-nil before)

  apart : (n number : ℕ) → (n == number) ≡ false → number ≡ n → ⊥
  apart n number p q = both-ways (n == number) (eq-eqb n number (sym q)) p

  defined-declares : (s : Source) (number : ℕ) (g : Function) (body : Block) (typed : TypedFunction) → slice_get s.functions number ≡ Some typed → is_complete (slice_get s.functions number) ≡ false → DeclaresAll s.functions s.here.objects
      → (n : ℕ) (same : Bool) → (n == number) ≡ same → Adds n number s.here.objects (after_body s number g (Some body)).here.objects (declares (Some (defined g (parameters_of s.here number g.params).numbers (body_of s number g body).value)))
      → Declared (declares (slice_get (after_body s number g (Some body)).functions n)) (own n (after_body s number g (Some body)).here.objects)
  defined-declares s number g body typed stands fresh d n true is adds =
      let here : n ≡ number = eqb-true n number is in
      alike _ _ _ _ (ap (λ (k : ℕ). declares (slice_get (after_body s number g (Some body)).functions k)) here ∙ ap declares (get-defined s.functions number _ typed stands)) refl
      (mine (n == number) _ _ _ is (sym (d n).is ∙ ap (λ (k : ℕ). declares (slice_get s.functions k)) here ∙ incomplete _ fresh) adds.is (numbers-follow n number _ _ _ adds))
  defined-declares s number g body typed stands fresh d n false is adds =
      alike _ _ _ _ (ap declares (get-if (nat_lt number (length s.functions)) s.functions number n _ (apart n number is))) (others (n == number) _ _ _ is adds.is) (d n)

  body-declares : (s : Source) (number : ℕ) (g : Function) (body : Option Block) (typed : TypedFunction) → slice_get s.functions number ≡ Some typed → (is_some body ≡ true → is_complete (slice_get s.functions number) ≡ false)
      → DeclaresAll s.functions s.here.objects → DeclaresAll (after_body s number g body).functions (after_body s number g body).here.objects
  body-declares s number g None typed stands fresh d = d
  body-declares s number g (Some body) typed stands fresh d = λ n.
      defined-declares s number g body typed stands (fresh refl) d n (n == number) refl
      (adds-more n number _ _ _ _ _ (parameters-add n number s.here g.params)
      (block-begins source n body (parameters_of s.here number g.params).after (inside_of number g) (record { in_loop = false; gives = g.gives })).adds)

  module _ (items : List Item) (sound : Seen → Bool) (clean : (s : Seen) → sound s ≡ true → Clean s) where
    function-declares : (s : Source) (names : Names) (before : List (Known Declaration)) (item : ℕ) (g : Function) (rest : List Item) → Reached source items sound clean s names before item (items_of.Function g ∷ rest)
        → DeclaresAll s.functions s.here.objects → DeclaresAll (after_function s item g).functions (after_function s item g).here.objects
    function-declares s names before item g rest r d =
        let t : Steps source items sound clean s names before item g = steps source items sound clean s names before item g rest r in
        let e : Entry source items g.name.name g (number_of s g) (after_declaration s item g).functions (is_defined before g.name.name) = entry-of source items g (state_of names s.here before s.functions) t.tells (r.covers g.name.name) in
        body-declares (after_declaration s item g) (number_of s g) g g.body e.typed e.stands
        (λ b. ap is_complete e.stands ∙ e.complete ∙ first-definition (is_some g.body) (is_defined before g.name.name) g.name.at b t.tells.second)
        (λ n. alike _ _ _ _ (or-alike _ s.functions g n) refl (d n))

    items-declare : (s : Source) (names : Names) (before : List (Known Declaration)) (item : ℕ) (list : List Item) → Reached source items sound clean s names before item list
        → DeclaresAll s.functions s.here.objects → DeclaresAll (after_items s item list).functions (after_items s item list).here.objects
    items-declare s names before item [] r d = d
    items-declare s names before item (items_of.Objects list ∷ rest) r d =
        items-declare (after_item s item (items_of.Objects list)) (seen_sources.after_item names item (items_of.Objects list)) before (item + 1) rest
        (next-reached source items sound clean s names before item (items_of.Objects list) rest r) (λ n. alike _ _ _ _ refl (sym (outside-alike s.here list.decls n)) (d n))
    items-declare s names before item (items_of.Function g ∷ rest) r d =
        items-declare (after_function s item g) (seen_sources.after_function names item g) (functions_after names.items before item (items_of.Function g)) (item + 1) rest
        (next-reached source items sound clean s names before item (items_of.Function g) rest r) (function-declares s names before item g rest r d)
    items-declare s names before item (items_of.ExternFlag at ∷ rest) r d =
        items-declare s names before (item + 1) rest (next-reached source items sound clean s names before item (items_of.ExternFlag at) rest r) d

  -- ---- the whole source

  -- a function without a body has no parameters
  whole-by : (defined : Option At) (gives : Option Width) (params : List ℕ) (body : Option TypedBlock) → (if is_some body then is_some defined else (is_none defined && length params == 0)) ≡ true
      → params ++ begun_in (in_body source gives body) ≡ (if is_some body then params ++ begun_in (in_body source gives body) else [])
  whole-by defined gives params (Some body) p = refl
  whole-by defined gives [] None p = refl
  whole-by defined gives (x ∷ params) None p = let none : length (x ∷ params) ≡ 0 = eqb-true _ _ (right (is_none defined) _ p) in absurd (omega arith)

  -- of each function
  all-declared : (program : Program) → IsTyped program source → DeclaresAll source.functions source.objects
  all-declared program is number =
      alike _ _ _ _ (ap (λ (l : List TypedFunction). declares (slice_get l number)) is.tied.functions) (ap (own number) (sym is.tied.objects))
      (items-declare program.items is_clean when-clean (start_of program source) (names_at_start program) [] 0 program.items
      (reached program source is_clean when-clean is.tied (seen-clean program is.faultless)) (λ n. record { is = refl; row = refl }) number)

pub objects-declared : (program : Program) (source : Typed) → IsTyped program source → (number : ℕ) (function : TypedFunction) → slice_get source.functions number ≡ Some function → DeclaresItsOwn source number function
objects-declared program source is number function stands =
    let whole : list_all is_whole source.functions ≡ true =
    ap (list_all is_whole) is.tied.functions
    ∙ functions-hold source program.items is_clean when-clean is_whole (λ g. refl) (λ s n g body within. refl) (start_of program source) (names_at_start program) [] 0 program.items (reached program source is_clean when-clean is.tied (seen-clean program is.faultless)) refl in
    whole-by source function.defined function.gives function.params function.body (holds-at is_whole source.functions number function whole stands)
    ∙ ap (declares source) (sym stands) ∙ (all-declared source program is number).is

pub objects-follow : (program : Program) (source : Typed) → IsTyped program source → (function : ℕ) → follow_one_another (own_from function 0 source.objects) ≡ true
objects-follow program source is function = (all-declared source program is function).row
