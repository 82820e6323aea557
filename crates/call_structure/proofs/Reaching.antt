-- From walks among places to walks among functions, and back.
use Rattle.std.proofs.Common.{◌≡◌, ◌<◌, ◌≤◌, ℕ, zero, suc, ◌+◌, List, [], ◌∷◌, ◌++◌, Option, Some, None, length, map, get_or, slice_get, unwrap_or, All, Contains, position, nat_eq, refl, sym, ap, ◌∙◌, subst, arith}
use Rattle.std.proofs.lemmas.List.{length-map}
use Rattle.std.proofs.Math.ListN.{get_or-map}
use Rattle.std.proofs.lemmas.List.Elements.{All-get_or, All-cons, Contains-append_right}
use Rattle.std.proofs.lemmas.List.Sorted.{All-permutation, Contains-permutation}
use Rattle.std.proofs.lemmas.Option.{slice_get-map, slice_get-get_or, none-some}
use Rattle.std.specs.Option.{option_map}
use Rattle.c_typed.specs.declared.typed.Typed.{Typed}
use Rattle.c_typed.specs.declared.typed.TypedFunction.{TypedFunction}
use Rattle.call_graph.specs.Walks.{callees, Calls, Walk}
use Rattle.call_graph.proofs.Reversal.{caller-own}
use Rattle.call_graph.proofs.Acyclic.{orders-have-no-cycles}
use Rattle.call_graph.specs.Cycles.{IsFirstCycle}
use Rattle.sat_base.specs.declared.name.At.{At}
use Rattle.call_structure.specs.Calls.{called_by, calls_among, place_of, places_of}
use Rattle.call_structure.specs.Definitions.{AreDefinitions, defined_from, definition_of, nowhere}
use Rattle.call_structure.specs.Reaching.{IsDefinedAt, IsDefined, CallsFunction, CallWalk, ReachesItself, OrdersAreFree, RecursionsAre}
use Rattle.call_structure.proofs.Places.{here, in_filter_map, from_filter_map, place_found, at_place}

-- ---- the definitions of a source

abbrev IsOwn : List TypedFunction → ℕ × At → Type 0
IsOwn functions definition = IsDefinedAt functions definition.0 definition.1

own_from : (functions : List TypedFunction) (number : ℕ) (rest : List TypedFunction) → ((k : ℕ) → slice_get functions (number + k) ≡ slice_get rest k)
    → All (IsOwn functions) (defined_from number rest)
own_from functions number [] same = λ k d low. absurd (omega (arith, low))
own_from functions number (function ∷ rest) same = by function.defined refl (own_from functions (suc number) rest (λ k.
    let one : suc number + k ≡ number + suc k = omega arith in ap (slice_get functions) one ∙ same (suc k)))
  where
    by : (o : Option At) → function.defined ≡ o → All (IsOwn functions) (defined_from (suc number) rest)
        → All (IsOwn functions) (definition_of number o ++ defined_from (suc number) rest)
    by None is all = all
    by (Some name) is all =
        let zeroth : number + 0 ≡ number = omega arith in
        All-cons (IsOwn functions) (number, name) (defined_from (suc number) rest)
        (record { function = function; there = ap (slice_get functions) (sym zeroth) ∙ same 0; defined = is }) all

listed_from : (functions : List TypedFunction) (start k : ℕ) (function : TypedFunction) (name : At) → slice_get functions k ≡ Some function → function.defined ≡ Some name
    → Contains (defined_from start functions) (start + k, name)
listed_from [] start k function name there defined = absurd (none-some function there)
listed_from (first ∷ rest) start zero function name there defined =
    let same : first ≡ function = cc in
    let none : start ≡ start + 0 = omega arith in
    subst (λ (n : ℕ). Contains (definition_of start first.defined ++ defined_from (suc start) rest) (n, name)) none
    (subst (λ o. Contains (definition_of start o ++ defined_from (suc start) rest) (start, name)) (sym (ap (λ (f : TypedFunction). f.defined) same ∙ defined))
    (here (start, name) (defined_from (suc start) rest)))
listed_from (first ∷ rest) start (suc k) function name there defined =
    let one : suc start + k ≡ start + suc k = omega arith in
    Contains-append_right (definition_of start first.defined) (defined_from (suc start) rest) (start + suc k, name)
    (subst (λ (n : ℕ). Contains (defined_from (suc start) rest) (n, name)) one (listed_from rest (suc start) k function name there defined))

pub in_map : {A B : Type 0} (f : A → B) (xs : List A) (x : A) → Contains xs x → Contains (map f xs) (f x)
in_map f xs x there = (there.0, subst (λ n. there.0 < n) (sym (length-map xs f)) there.1, get_or-map f xs there.0 x ∙ ap f there.2)

module _ (typed : Typed) (definitions : List (ℕ × At)) (are : AreDefinitions typed definitions) where
  abbrev graph : List (List ℕ)
  graph = calls_among typed definitions

  abbrev number_of : ℕ × At → ℕ
  number_of definition = definition.0

  abbrev pub numbers : List ℕ
  numbers = map (λ (definition : ℕ × At). definition.0) definitions

  -- the number of the function at a place
  pub number_at : (p : ℕ) → get_or numbers p 0 ≡ (get_or definitions p nowhere).0
  number_at p = get_or-map (λ (definition : ℕ × At). definition.0) definitions p nowhere

  pub as_many : length numbers ≡ length definitions
  as_many = length-map definitions (λ (definition : ℕ × At). definition.0)

  pub defined_at : (p : ℕ) → p < length definitions → IsDefined typed.functions (get_or numbers p 0)
  defined_at p low =
      let all = own_from typed.functions 0 typed.functions (λ k. let none : 0 + k ≡ k = omega arith in ap (slice_get typed.functions) none) in
      let own = All-get_or (IsOwn typed.functions) definitions p nowhere low (All-permutation (IsOwn typed.functions) _ _ are.each all) in
      subst (IsDefined typed.functions) (sym (number_at p)) ((get_or definitions p nowhere).1, own)

  pub placed : (f : ℕ) → IsDefined typed.functions f → Contains numbers f
  placed f defined =
      let none : 0 + f ≡ f = omega arith in
      let listed = Contains-permutation _ _ _ are.each (listed_from typed.functions 0 f defined.1.function defined.0 defined.1.there defined.1.defined) in
      subst (Contains numbers) none (in_map (λ (definition : ℕ × At). definition.0) definitions (0 + f, defined.0) listed)

  pub row : (p : ℕ) → p < length definitions → callees graph p ≡ places_of definitions (called_by typed (get_or numbers p 0))
  row p low =
      ap (λ o. unwrap_or o []) (slice_get-map (λ (definition : ℕ × At). places_of definitions (called_by typed definition.0)) definitions p
      ∙ ap (option_map (λ (definition : ℕ × At). places_of definitions (called_by typed definition.0))) (slice_get-get_or definitions p nowhere low))
      ∙ ap (λ (n : ℕ). places_of definitions (called_by typed n)) (sym (number_at p))

  pub sized : length graph ≡ length definitions
  sized = length-map definitions (λ (definition : ℕ × At). places_of definitions (called_by typed definition.0))

  to_places : (n f g p : ℕ) → CallWalk typed n f g → position (nat_eq f) numbers ≡ Some p → (q : ℕ) × Walk graph n p q × (position (nat_eq g) numbers ≡ Some q)
  to_places zero f g p same place = (p, refl, ap (λ h. position (nat_eq h) numbers) (sym same) ∙ place)
  to_places (suc n) f g p walk place =
      let h = walk.0 in
      let calls = walk.1 in
      let at = at_place f p numbers place in
      let q = place_found h numbers (placed h calls.callee) in
      let at_q = at_place h q.0 numbers q.1 in
      let low : p < length definitions = omega (arith, as_many, at.0) in
      let there = in_filter_map (place_of definitions) (called_by typed f) h q.0 calls.called q.1 in
      let called = subst (λ l. Contains l q.0) (sym (row p low)) (subst (λ k. Contains (places_of definitions (called_by typed k)) q.0) (sym at.1) there) in
      let within : q.0 < length graph = omega (arith, as_many, sized, at_q.0) in
      let rest = to_places n h g q.0 walk.2 q.1 in
      (rest.0, (q.0, (called, within), rest.1), rest.2)

  to_functions : (n p q : ℕ) → Walk graph n p q → p < length definitions → CallWalk typed n (get_or numbers p 0) (get_or numbers q 0)
  to_functions zero p q same low = ap (λ k. get_or numbers k 0) same
  to_functions (suc n) p q walk low =
      let r = walk.0 in
      let called = from_filter_map (place_of definitions) (called_by typed (get_or numbers p 0)) r (subst (λ l. Contains l r) (row p low) walk.1.0) in
      let at = at_place called.0 r numbers called.2 in
      let low_r : r < length definitions = omega (arith, as_many, at.0) in
      let calls : CallsFunction typed (get_or numbers p 0) (get_or numbers r 0) = record {
        caller = defined_at p low;
        callee = defined_at r low_r;
        called = subst (Contains (called_by typed (get_or numbers p 0))) (sym at.1) called.1;
      } in
      (get_or numbers r 0, calls, to_functions n r q walk.2 low_r)

  -- who calls has a place
  caller_low : (p q : ℕ) → Calls graph p q → p < length definitions
  caller_low p q calls = omega (arith, sized, caller-own graph p q calls.0)

some_same : (a b : ℕ) (o : Option ℕ) → o ≡ Some a → o ≡ Some b → a ≡ b
some_same a b o is other = cc

pub orders_are_free : OrdersAreFree
orders_are_free typed functions order f reaches =
    let d = order.definitions in
    let numbers = map (λ (definition : ℕ × At). definition.0) d in
    let p = place_found f numbers (placed typed d order.are f reaches.1.1.caller) in
    let walk = to_places typed d order.are (suc reaches.0) f f p.0 reaches.1 p.1 in
    let same : walk.0 ≡ p.0 = some_same walk.0 p.0 _ walk.2 p.1 in
    orders-have-no-cycles (calls_among typed d) order.places order.order p.0 (reaches.0, subst (Walk (calls_among typed d) (suc reaches.0) p.0) same walk.1)

recursion_in : (typed : Typed) (definitions : List (ℕ × At)) → AreDefinitions typed definitions → (places : List ℕ) → IsFirstCycle (calls_among typed definitions) places
    → (f : ℕ) × ReachesItself typed f
recursion_in typed definitions are [] cycle = absurd cycle
recursion_in typed definitions are (start ∷ rest) cycle = by cycle.length cycle.least.some cycle.least.walk
  where
    by : (n : ℕ) → 1 ≤ n → Walk (calls_among typed definitions) n start start → (f : ℕ) × ReachesItself typed f
    by zero some walk = absurd (omega (arith, some))
    by (suc n) some walk = (
      get_or (map (λ (definition : ℕ × At). definition.0) definitions) start 0,
      (n, to_functions typed definitions are (suc n) start start walk (caller_low typed definitions are start walk.0 walk.1)),
    )

pub recursions_are : RecursionsAre
recursions_are typed refusal recursion = recursion_in typed recursion.definitions recursion.are recursion.places recursion.cycle
