-- The definitions of a source in the order of the text are its defined functions in the order of its definitions.
use Rattle.std.proofs.Common.{◌≡◌, ◌⊎◌, ◌<◌, ◌≤◌, ℕ, suc, ◌+◌, List, [], ◌∷◌, ◌++◌, Bool, true, false, length, map, get_or, refl, sym, ap, ◌∙◌, subst, inl, inr, arith}
use Rattle.std.specs.Prelude.{◌==◌, if◌then◌else◌, slice_get, unwrap_or, Option, Some, None, option_map, is_some}
use Rattle.std.specs.List.{All, AllByRecursion, IsDistinct, list_all}
use Rattle.std.proofs.lemmas.Bool.Decides.{nat_tests}
use Rattle.std.proofs.lemmas.List.Elements.{All-from_recursion}
use Rattle.std.proofs.lemmas.List.Sorted.{All-permutation, IsNonDecreasingBy-from_sort}
use Rattle.std.proofs.lemmas.Map.Keys.{IsDistinct-IsPermutation, apart_from_distinct}
use Rattle.std.proofs.lemmas.Option.{slice_get-map, slice_get-get_or, slice_get_within, get_or_from_slice_get, none-some, same_Some}
use Rattle.sat_base.specs.declared.name.At.{At}
use Rattle.c_typed.specs.declared.typed.Typed.{Typed}
use Rattle.c_typed.specs.declared.typed.TypedFunction.{TypedFunction}
use Rattle.call_structure.specs.Definitions.{AreDefinitions, definition_of, defined_from}
use Rattle.call_structure.specs.Reaching.{IsDefined}
use Rattle.call_structure.proofs.Places.{place_found, at_place}
use Rattle.call_structure.proofs.Reaching.{as_many, defined_at, placed}
use Rattle.whole_trees.specs.Sources.{number_in, function_at, nameless, numbers_defined, defined_functions}
use Rattle.lawful_sources.specs.Lawful.{IsLawful, StandsOnce, definition_token, is_whole, token_in, definitions_in, with_definition}
use Rattle.lawful_ir.proofs.Alike.{left, right}
use Rattle.lawful_ir.proofs.Wholes.{at-all, whole-complete, whole-defined}
use Rattle.ir_mains.proofs.Rising.{In, in-later, first-or, Rises, one-list, put-rises, from-put, put-own, put-other}

-- ---- tokens of definitions

abbrev Differ : List TypedFunction → Type 0
Differ functions = (token : ℕ) → StandsOnce (map definition_token functions) (Some token)

differ-later : (f : TypedFunction) (functions : List TypedFunction) → Differ (f ∷ functions) → Differ functions
differ-later f functions differ token one other p q = let same : suc one ≡ suc other = differ token (suc one) (suc other) p q in omega arith

token-at : (functions : List TypedFunction) (k : ℕ) (f : TypedFunction) (at : At) → slice_get functions k ≡ Some f → f.defined ≡ Some at → slice_get (map definition_token functions) k ≡ Some (Some at.tok)
token-at functions k f at p q = slice_get-map definition_token functions k ∙ ap (option_map definition_token) p ∙ ap (λ (o : Option At). Some (option_map (λ (a : At). a.tok) o)) q

-- a later definition has another token
apart-later : (f g : TypedFunction) (functions : List TypedFunction) (k : ℕ) (at to : At) → Differ (f ∷ functions) → f.defined ≡ Some at → slice_get functions k ≡ Some g → g.defined ≡ Some to → at.tok ≡ to.tok → ⊥
apart-later f g functions k at to differ own p other same =
    let first : slice_get (map definition_token (f ∷ functions)) 0 ≡ Some (Some at.tok) = token-at (f ∷ functions) 0 f at refl own in
    let later : slice_get (map definition_token (f ∷ functions)) (suc k) ≡ Some (Some at.tok) = token-at functions k g to p other ∙ ap (λ (t : ℕ). Some (Some t)) (sym same) in
    let never : 0 ≡ suc k = differ at.tok 0 (suc k) first later in
    omega (arith, never)

-- ---- the definitions in the order of the text

pub from-definitions : (functions : List TypedFunction) (g : TypedFunction) → In (definitions_in functions) g → In functions g × (is_some g.body ≡ true)
from-definitions [] g p = absurd (none-some g p.1)
from-definitions (f ∷ functions) g p = by (is_some f.body) refl (from-definitions functions g) p
  where
    by : (whole : Bool) → is_some f.body ≡ whole → (In (definitions_in functions) g → In functions g × (is_some g.body ≡ true))
        → In (if whole then with_definition f (definitions_in functions) else definitions_in functions) g → In (f ∷ functions) g × (is_some g.body ≡ true)
    by true whole later p = elim (from-put f g (definitions_in functions) p) [
      | inl same ↦ ((0, ap Some same), ap (λ (x : TypedFunction). is_some x.body) (sym same) ∙ whole)
      | inr rest ↦ let q = later rest in (in-later f g functions q.0, q.1)
    ]
    by false bare later p = let q = later p in (in-later f g functions q.0, q.1)

pub to-definitions : (functions : List TypedFunction) (g : TypedFunction) → In functions g → is_some g.body ≡ true → In (definitions_in functions) g
to-definitions [] g p whole = absurd (none-some g p.1)
to-definitions (f ∷ functions) g p whole = by (is_some f.body) refl (first-or f g functions p) (λ q. to-definitions functions g q whole)
  where
    by : (test : Bool) → is_some f.body ≡ test → (f ≡ g) ⊎ In functions g → (In functions g → In (definitions_in functions) g) → In (if test then with_definition f (definitions_in functions) else definitions_in functions) g
    by true is q later = elim q [
      | inl same ↦ subst (In (with_definition f (definitions_in functions))) same (put-own f (definitions_in functions))
      | inr rest ↦ put-other f g (definitions_in functions) (later rest)
    ]
    by false is q later = elim q [
      | inl same ↦ absurd (let never : false ≡ true = sym is ∙ ap (λ (x : TypedFunction). is_some x.body) same ∙ whole in cc)
      | inr rest ↦ later rest
    ]

pub definitions-rise : (functions : List TypedFunction) → list_all is_whole functions ≡ true → Differ functions → Rises 0 (definitions_in functions)
definitions-rise [] whole differ = tt
definitions-rise (f ∷ functions) whole differ = by (is_some f.body) refl (definitions-rise functions (right (is_whole f) _ whole) (differ-later f functions differ))
  where
    by : (test : Bool) → is_some f.body ≡ test → Rises 0 (definitions_in functions) → Rises 0 (if test then with_definition f (definitions_in functions) else definitions_in functions)
    by true is later =
        put-rises 0 f (definitions_in functions) (omega arith) later (λ g p same.
        let q = from-definitions functions g p in
        let own = whole-defined f (left (is_whole f) _ whole) is in
        let other = whole-defined g (at-all is_whole functions q.0.0 g (right (is_whole f) _ whole) q.0.1) q.1 in
        apart-later f g functions q.0.0 own.0 other.0 differ own.1 q.0.1 other.1 (ap token_in (sym own.1) ∙ sym same ∙ ap token_in other.1))
    by false is later = later

-- ---- definitions by their numbers

abbrev same_token : ℕ × At → ℕ × At → Bool
same_token one other = one.1.tok == other.1.tok

apart-from : (one : ℕ × At) (number : ℕ) (functions : List TypedFunction) → ((k : ℕ) (g : TypedFunction) (to : At) → slice_get functions k ≡ Some g → g.defined ≡ Some to → one.1.tok ≡ to.tok → ⊥)
    → AllByRecursion (λ other. same_token one other ≡ false) (defined_from number functions)
apart-from one number [] apart = tt
apart-from one number (f ∷ functions) apart = by f.defined refl (apart-from one (suc number) functions (λ k g to p q. apart (suc k) g to p q))
  where
    by : (o : Option At) → f.defined ≡ o → AllByRecursion (λ other. same_token one other ≡ false) (defined_from (suc number) functions) → AllByRecursion (λ other. same_token one other ≡ false) (definition_of number o ++ defined_from (suc number) functions)
    by None is later = later
    by (Some to) is later = let differs : one.1.tok ≡ to.tok → ⊥ = apart 0 f to refl is in (grind (arith, nat_tests), later)

distinct-from : (number : ℕ) (functions : List TypedFunction) → Differ functions → IsDistinct same_token (defined_from number functions)
unfolding IsDistinct
distinct-from number [] differ = tt
distinct-from number (f ∷ functions) differ = by f.defined refl (distinct-from (suc number) functions (differ-later f functions differ))
  where
    by : (o : Option At) → f.defined ≡ o → IsDistinct same_token (defined_from (suc number) functions) → IsDistinct same_token (definition_of number o ++ defined_from (suc number) functions)
    by None is later = later
    by (Some at) is later = (apart-from (number, at) (suc number) functions (λ k g to p q. apart-later f g functions k at to differ is p q), later)

-- the token of a definition is that of the function of its number
abbrev Own : List TypedFunction → ℕ × At → Type 0
Own functions d = token_in (function_at functions d.0).defined ≡ d.1.tok

own-from : (functions : List TypedFunction) (number : ℕ) (rest : List TypedFunction) → ((k : ℕ) → slice_get functions (number + k) ≡ slice_get rest k) → AllByRecursion (Own functions) (defined_from number rest)
own-from functions number [] aligned = tt
own-from functions number (f ∷ rest) aligned = by f.defined refl (own-from functions (suc number) rest (λ k. ap (slice_get functions) (omega arith) ∙ aligned (suc k)))
  where
    by : (o : Option At) → f.defined ≡ o → AllByRecursion (Own functions) (defined_from (suc number) rest) → AllByRecursion (Own functions) (definition_of number o ++ defined_from (suc number) rest)
    by None is later = later
    by (Some at) is later = (ap (λ (x : Option TypedFunction). token_in (unwrap_or x nameless).defined) (ap (slice_get functions) (omega arith) ∙ aligned 0) ∙ ap token_in is, later)

-- definitions whose tokens rise
rises-along : (functions : List TypedFunction) (n : ℕ) (list : List (ℕ × At)) → ((k : ℕ) (d : ℕ × At) → slice_get list k ≡ Some d → Own functions d)
    → ((k : ℕ) (d : ℕ × At) → slice_get list k ≡ Some d → n ≤ d.1.tok)
    → ((i j : ℕ) (c d : ℕ × At) → i < j → slice_get list i ≡ Some c → slice_get list j ≡ Some d → c.1.tok < d.1.tok)
    → Rises n (map (function_at functions) (numbers_defined list))
rises-along functions n [] own low rise = tt
rises-along functions n (d ∷ list) own low rise =
    let same : token_in (function_at functions d.0).defined ≡ d.1.tok = own 0 d refl in
    let first : n ≤ d.1.tok = low 0 d refl in (
      omega (arith, same, first),
      rises-along functions (suc (token_in (function_at functions d.0).defined)) list (λ k c p. own (suc k) c p)
          (λ k c p. let above : d.1.tok < c.1.tok = rise 0 (suc k) d c (omega arith) refl p in omega (arith, above, same))
          (λ i j b c less p q. rise (suc i) (suc j) b c (omega arith) p q),
    )

module _ (typed : Typed) (definitions : List (ℕ × At)) (are : AreDefinitions typed definitions) (lawful : IsLawful typed) where
  -- the place of a defined function among the definitions
  pub placed-at : (number : ℕ) → IsDefined typed.functions number → slice_get (numbers_defined definitions) (number_in definitions number) ≡ Some number
  placed-at number defined =
      let p = place_found number (numbers_defined definitions) (placed typed definitions are number defined) in
      let at = at_place number p.0 (numbers_defined definitions) p.1 in
      ap (slice_get (numbers_defined definitions)) (ap (λ (o : Option ℕ). unwrap_or o 0) p.1) ∙ slice_get-get_or (numbers_defined definitions) p.0 0 at.0 ∙ ap Some at.1

  pub body-defined : (number : ℕ) (f : TypedFunction) → slice_get typed.functions number ≡ Some f → is_some f.body ≡ true → (at : At) × (f.defined ≡ Some at)
  body-defined number f p whole = whole-defined f (at-all is_whole typed.functions number f lawful.functions_are_whole p) whole

  in-defined : (f : TypedFunction) → In typed.functions f → is_some f.body ≡ true → In (defined_functions typed definitions) f
  in-defined f (number, p) whole =
      let name = body-defined number f p whole in
      let at = placed-at number (name.0, record { function = f; there = p; defined = name.1 }) in (
        number_in definitions number,
        slice_get-map (function_at typed.functions) (numbers_defined definitions) (number_in definitions number) ∙ ap (option_map (function_at typed.functions)) at ∙ ap (λ (o : Option TypedFunction). Some (unwrap_or o nameless)) p,
      )

  defined-number : (k number : ℕ) → slice_get (numbers_defined definitions) k ≡ Some number → IsDefined typed.functions number
  defined-number k number p =
      let low : k < length (numbers_defined definitions) = slice_get_within (numbers_defined definitions) k number p in
      let many = as_many typed definitions are in
      subst (IsDefined typed.functions) (get_or_from_slice_get (numbers_defined definitions) k number 0 p) (defined_at typed definitions are k (omega (arith, low, many)))

  from-defined : (f : TypedFunction) → In (defined_functions typed definitions) f → In typed.functions f × (is_some f.body ≡ true)
  from-defined f (k, p) = by (slice_get (numbers_defined definitions) k) refl (sym (slice_get-map (function_at typed.functions) (numbers_defined definitions) k) ∙ p)
    where
      by : (x : Option ℕ) → slice_get (numbers_defined definitions) k ≡ x → option_map (function_at typed.functions) x ≡ Some f → In typed.functions f × (is_some f.body ≡ true)
      by None at q = absurd (none-some f q)
      by (Some number) at q =
          let defined : IsDefined typed.functions number = defined-number k number at in
          let same : defined.1.function ≡ f = ap (λ (o : Option TypedFunction). unwrap_or o nameless) (sym defined.1.there) ∙ same_Some (function_at typed.functions number) f q in
          let whole : is_some defined.1.function.body ≡ true = whole-complete defined.1.function defined.0 (at-all is_whole typed.functions number defined.1.function lawful.functions_are_whole defined.1.there) defined.1.defined in
          ((number, defined.1.there ∙ ap Some same), ap (λ (x : TypedFunction). is_some x.body) (sym same) ∙ whole)

  defined-rise : Rises 0 (defined_functions typed definitions)
  defined-rise = rises-along typed.functions 0 definitions own (λ k d p. omega arith) rise
    where
      all : All (Own typed.functions) definitions
      all = All-permutation (Own typed.functions) _ _ are.each (All-from_recursion (Own typed.functions) _ (own-from typed.functions 0 typed.functions (λ k. ap (slice_get typed.functions) (omega arith))))

      own : (k : ℕ) (d : ℕ × At) → slice_get definitions k ≡ Some d → Own typed.functions d
      own k d p = subst (Own typed.functions) (get_or_from_slice_get definitions k d d p) (all k d (slice_get_within definitions k d p))

      distinct : IsDistinct same_token definitions
      distinct = IsDistinct-IsPermutation same_token (λ one other. grind (arith, nat_tests)) (defined_from 0 typed.functions) definitions are.each (distinct-from 0 typed.functions lawful.definitions_differ)

      rise : (i j : ℕ) (c d : ℕ × At) → i < j → slice_get definitions i ≡ Some c → slice_get definitions j ≡ Some d → c.1.tok < d.1.tok
      rise i j c d less p q =
          let low : j < length definitions = slice_get_within definitions j d q in
          let one : get_or definitions i c ≡ c = get_or_from_slice_get definitions i c c p in
          let other : get_or definitions j c ≡ d = get_or_from_slice_get definitions j d c q in
          let up : (get_or definitions i c).1.tok ≤ (get_or definitions j c).1.tok = IsNonDecreasingBy-from_sort (λ (x : ℕ × At). x.1.tok) definitions are.in_order i j c (omega arith) low in
          let apart : ((get_or definitions i c).1.tok == (get_or definitions j c).1.tok) ≡ false = apart_from_distinct same_token definitions i j c distinct less low in
          let least : c.1.tok ≤ d.1.tok = rw (one, other) at up in
          let differs : (c.1.tok == d.1.tok) ≡ false = rw (one, other) at apart in
          grind (arith, nat_tests)

  -- they are the same list
  pub ordered : defined_functions typed definitions ≡ definitions_in typed.functions
  ordered =
      one-list 0 0 (defined_functions typed definitions) (definitions_in typed.functions) defined-rise (definitions-rise typed.functions lawful.functions_are_whole lawful.definitions_differ)
      (λ f p. let q = from-defined f p in to-definitions typed.functions f q.0 q.1)
      (λ f p. let q = from-definitions typed.functions f p in in-defined f q.0 q.1)
