-- A source without a fault has a definition of main, which is a function of the source.
use Rattle.std.proofs.Common.{◌≡◌, ℕ, zero, suc, ◌+◌, List, [], ◌∷◌, Bool, true, false, map, length, refl, sym, ap, ◌∙◌, subst}
use Rattle.std.specs.Prelude.{Option, Some, None, is_some, ◌&&◌, ◌||◌, ◌==◌, slice_get, codes}
use Rattle.std.specs.List.{list_any}
use Rattle.std.specs.Str.{bytes_eq}
use Rattle.sat_base.specs.declared.width.Width.{Width}
use Rattle.sat_base.specs.declared.width.Width.TheVariants.{W16, W32}
use Rattle.c_scopes.specs.Scopes.{Known}
use Rattle.c_tree.specs.declared.function.Function.{Function}
use Rattle.c_tree.specs.declared.function.Param.{Param}
use Rattle.c_tree.specs.declared.program.Item.{Item}
use Rattle.c_tree.specs.declared.program.Item.TheVariants as items_of
use Rattle.c_tree.specs.declared.program.Program.{Program}
use Rattle.c_typed.specs.declared.typed.Typed.{Typed}
use Rattle.c_typed.specs.declared.typed.TypedFunction.{TypedFunction}
use Rattle.c_seen.specs.declared.functions.Declaration.{Declaration}
use Rattle.c_seen.specs.declared.seen.Seen.{Seen}
use Rattle.c_seen.specs.Functions.{function_at, functions_of, functions_from, is_defined, defined_by, declaring_function}
use Rattle.c_seen.specs.Meanings.{Names}
use Rattle.c_seen.specs.Sources as seen_sources
use Rattle.c_seen.specs.Sources.{functions_after, seen_in_items, seen_of, end_of, is_empty}
use Rattle.c_types.specs.Sources.{Source, number_of, after_function, after_item}
use Rattle.c_types.specs.Tied.{IsTyped}
use Rattle.lawful_sources.specs.Objects.{is_complete}
use Rattle.lawful_sources.specs.Lawful.{is_not_16, is_good_main}
use Rattle.lawful_sources.proofs.Passing.{Each}
use Rattle.lawful_laws.proofs.Functions.{both, left, right}
use Rattle.lawful_laws.proofs.Statements.{later, head}
use Rattle.lawful_names.proofs.Agreement.{sort_of, sorts, AreParameters, IsFunction}
use Rattle.lawful_names.proofs.Clean.{Clean, true-by, is_clean, when-clean}
use Rattle.lawful_names.proofs.Faultless.{seen-clean}
use Rattle.lawful_names.proofs.Keeping.{passed, found}
use Rattle.lawful_names.proofs.Reached.{Reached, Steps, steps, function-own, next-reached, at-end}
use Rattle.lawful_names.proofs.Sources.{reached, start_of, names_at_start}
use Rattle.std.proofs.lemmas.Slice.Eq.{bytes_eq-Decides}
use Rattle.lawful_names.proofs.Truths.{or-right}

-- ---- a definition stays

stays-by : (items : List Item) (g : Function) (name : List ℕ) (same : Bool) → bytes_eq g.name.name name ≡ same → (before : List (Known Declaration)) (item : ℕ) → is_defined before name ≡ true → is_defined (declaring_function items before item g) name ≡ true
stays-by items g name true is before item p =
    ap defined_by (found g.name.name name _ before is) ∙ or-right (is_some g.body) _ (ap (is_defined before) ((bytes_eq-Decides g.name.name name).0 is) ∙ p)
stays-by items g name false is before item p = ap defined_by (passed g.name.name name _ before is) ∙ p

stays : (items : List Item) (name : List ℕ) (before : List (Known Declaration)) (item : ℕ) (list : List Item) → is_defined before name ≡ true → is_defined (functions_from items before item list) name ≡ true
stays items name before item [] p = p
stays items name before item (items_of.Objects objects ∷ rest) p = stays items name before (item + 1) rest p
stays items name before item (items_of.Function g ∷ rest) p = stays items name (declaring_function items before item g) (item + 1) rest (stays-by items g name (bytes_eq g.name.name name) refl before item p)
stays items name before item (items_of.ExternFlag at ∷ rest) p = stays items name before (item + 1) rest p

pub defined-here : (items : List Item) (g : Function) (before : List (Known Declaration)) (item : ℕ) → is_some g.body ≡ true → is_defined (declaring_function items before item g) g.name.name ≡ true
defined-here items g before item p = ap defined_by (found g.name.name g.name.name _ before ((bytes_eq-Decides g.name.name g.name.name).1 refl)) ∙ ap (λ (b : Bool). b || is_defined before g.name.name) p

-- ---- main

-- no parameters on one side are none on the other
none-taken : (source : Typed) (numbers : List ℕ) (params : List Param) → is_empty params ≡ true → AreParameters source numbers (map sort_of params) → (length numbers == 0) ≡ true
none-taken source [] [] p q = refl
none-taken source [] (param ∷ params) p q = absurd q
none-taken source (number ∷ numbers) [] p q = absurd q
none-taken source (number ∷ numbers) (param ∷ params) p q = cc

wide : (gives : Option Width) → seen_sources.is_not_16 gives ≡ true → is_not_16 gives ≡ true
wide None p = refl
wide (Some W16) p = p
wide (Some W32) p = refl

any-at : (test : TypedFunction → Bool) (functions : List TypedFunction) (number : ℕ) (one : TypedFunction) → slice_get functions number ≡ Some one → test one ≡ true → list_any test functions ≡ true
any-at test [] number one is p = cc
any-at test (f ∷ functions) zero one is p = let same : f ≡ one = cc in ap (λ (b : Bool). b || list_any test functions) (ap test same ∙ p)
any-at test (f ∷ functions) (suc number) one is p = or-right (test f) _ (any-at test functions number one is p)

same-function : (items : List Item) (item : ℕ) (one other : Function) → function_at items item ≡ Some one → function_at items item ≡ Some other → one ≡ other
same-function items item one other p q = let same : Some one ≡ Some other = sym p ∙ q in cc

good-main : (source : Typed) (items : List Item) (g : Function) (item number : ℕ) → function_at items item ≡ Some g → seen_sources.is_good_main (items_of.Function g) ≡ true → is_defined (functions_of items) g.name.name ≡ true
    → IsFunction source items g.name.name item number → list_any is_good_main source.functions ≡ true
good-main source items g item number at p complete f =
    let is : f.declaration ≡ g = same-function items item f.declaration g f.declares at in
    let main : bytes_eq g.name.name (codes "main") ≡ true = left (bytes_eq g.name.name (codes "main")) _ p in
    let rest : (is_empty g.params && seen_sources.is_not_16 g.gives) ≡ true = right (is_some g.body) _ (right (bytes_eq g.name.name (codes "main")) _ p) in
    let whole : is_some f.function.body ≡ true = f.defined ∙ complete in
    let params : AreParameters source f.function.params (sorts g) = subst (λ (d : Function). AreParameters source f.function.params (sorts d)) is (f.parameters whole) in
    any-at is_good_main source.functions number f.function f.stands
    (both _ _ (ap (λ (n : List ℕ). bytes_eq n (codes "main")) f.named ∙ main)
    (both _ _ whole (both _ _ (none-taken source f.function.params g.params (left (is_empty g.params) _ rest) params)
    (ap is_not_16 (f.gives ∙ ap (λ (d : Function). d.gives) is) ∙ wide g.gives (right (is_empty g.params) _ rest)))))

module _ (source : Typed) (items : List Item) (sound : Seen → Bool) (clean : (s : Seen) → sound s ≡ true → Clean s) where
  pub own-function : (s : Source) (names : Names) (before : List (Known Declaration)) (item : ℕ) (g : Function) (rest : List Item) → Reached source items sound clean s names before item (items_of.Function g ∷ rest)
      → IsFunction source items g.name.name item (number_of s g)
  own-function s names before item g rest r =
      let own : Names = seen_sources.after_function names item g in
      let after : List (Known Declaration) = functions_after names.items before item (items_of.Function g) in
      let t : Steps source items sound clean s names before item g = steps source items sound clean s names before item g rest r in
      at-end source items sound clean (after_function s item g) own after (item + 1) rest (next-reached source items sound clean s names before item (items_of.Function g) rest r) g.name.name (number_of s g) item g t.at
      (function-own source items sound clean s names before item g rest r)

  pub own-defined : (s : Source) (names : Names) (before : List (Known Declaration)) (item : ℕ) (g : Function) (rest : List Item) → Reached source items sound clean s names before item (items_of.Function g ∷ rest) → is_some g.body ≡ true
      → is_defined (functions_of items) g.name.name ≡ true
  own-defined s names before item g rest r body =
      let next : Reached source items sound clean (after_function s item g) (seen_sources.after_function names item g) (functions_after names.items before item (items_of.Function g)) (item + 1) rest =
      next-reached source items sound clean s names before item (items_of.Function g) rest r in
      ap (λ (l : List (Known Declaration)). is_defined l g.name.name) next.declarations
      ∙ stays items g.name.name (functions_after names.items before item (items_of.Function g)) (item + 1) rest (defined-here names.items g before item body)

  -- a function with a body has it at the end
  pub own-complete : (s : Source) (names : Names) (before : List (Known Declaration)) (item : ℕ) (g : Function) (rest : List Item) → Reached source items sound clean s names before item (items_of.Function g ∷ rest) → is_some g.body ≡ true
      → is_complete (slice_get source.functions (number_of s g)) ≡ true
  own-complete s names before item g rest r body =
      let f : IsFunction source items g.name.name item (number_of s g) = own-function s names before item g rest r in
      ap is_complete f.stands ∙ f.defined ∙ own-defined s names before item g rest r body

  main-at : (s : Source) (names : Names) (before : List (Known Declaration)) (item : ℕ) (g : Function) (rest : List Item) → Reached source items sound clean s names before item (items_of.Function g ∷ rest)
      → seen_sources.is_good_main (items_of.Function g) ≡ true → list_any is_good_main source.functions ≡ true
  main-at s names before item g rest r p =
      let t : Steps source items sound clean s names before item g = steps source items sound clean s names before item g rest r in
      let body : is_some g.body ≡ true = left (is_some g.body) _ (right (bytes_eq g.name.name (codes "main")) _ p) in
      good-main source items g item (number_of s g) t.at p (own-defined s names before item g rest r body) (own-function s names before item g rest r)

  main-or : (s : Source) (names : Names) (before : List (Known Declaration)) (item : ℕ) (g : Function) (rest : List Item) → Reached source items sound clean s names before item (items_of.Function g ∷ rest)
      → (good : Bool) → seen_sources.is_good_main (items_of.Function g) ≡ good → (later : Bool) → (good || later) ≡ true → (later ≡ true → list_any is_good_main source.functions ≡ true) → list_any is_good_main source.functions ≡ true
  main-or s names before item g rest r true is later p q = main-at s names before item g rest r is
  main-or s names before item g rest r false is later p q = q p

  main-stands : (s : Source) (names : Names) (before : List (Known Declaration)) (item : ℕ) (list : List Item) → Reached source items sound clean s names before item list → list_any seen_sources.is_good_main list ≡ true
      → list_any is_good_main source.functions ≡ true
  main-stands s names before item [] r p = cc
  main-stands s names before item (items_of.Objects list ∷ rest) r p =
      main-stands (after_item s item (items_of.Objects list)) (seen_sources.after_item names item (items_of.Objects list)) before (item + 1) rest (next-reached source items sound clean s names before item (items_of.Objects list) rest r) p
  main-stands s names before item (items_of.Function g ∷ rest) r p =
      main-or s names before item g rest r _ refl (list_any seen_sources.is_good_main rest) p
      (main-stands (after_function s item g) (seen_sources.after_function names item g) (functions_after names.items before item (items_of.Function g)) (item + 1) rest (next-reached source items sound clean s names before item (items_of.Function g) rest r))
  main-stands s names before item (items_of.ExternFlag at ∷ rest) r p =
      main-stands s names before (item + 1) rest (next-reached source items sound clean s names before item (items_of.ExternFlag at) rest r) p

pub has-main : (program : Program) (source : Typed) → IsTyped program source → list_any is_good_main source.functions ≡ true
has-main program source is =
    let all : Each is_clean (seen_of program) = record { all = seen-clean program is.faultless } in
    let end : Each is_clean (end_of program ∷ []) = later is_clean (seen_in_items (names_at_start program) [] 0 program.items) (end_of program ∷ []) all in
    let tells : Clean (end_of program) = when-clean _ (head is_clean _ _ end) in
    main-stands source program.items is_clean when-clean (start_of program source) (names_at_start program) [] 0 program.items (reached program source is_clean when-clean is.tied (seen-clean program is.faultless)) (true-by _ _ tells.main)
