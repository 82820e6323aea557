-- An order of the functions, callers first, said of the functions' own numbers.
use Rattle.std.proofs.Common.{◌≡◌, ◌<◌, ◌≤◌, ℕ, zero, suc, ◌+◌, List, [], ◌∷◌, ◌++◌, length, get_or, All, Contains, refl, sym, ap, ◌∙◌, subst, inl, inr, arith}
use Rattle.std.specs.Prelude.{Option, Some, None}
use Rattle.std.proofs.lemmas.Bool.Decides.{eqb_tells}
use Rattle.std.proofs.lemmas.List.{length-map}
use Rattle.std.proofs.lemmas.List.Elements.{All-get_or}
use Rattle.std.proofs.lemmas.List.Sorted.{length_permutation}
use Rattle.std.proofs.lemmas.Option.{unwrap_or-slice_get}
use Rattle.sat_base.specs.declared.name.At.{At}
use Rattle.c_typed.specs.declared.typed.Typed.{Typed}
use Rattle.c_typed.specs.declared.typed.TypedFunction.{TypedFunction}
use Rattle.call_graph.specs.Walks.{Calls}
use Rattle.call_graph.specs.Orders.{count_of, AreCallersFirst, IsOrder}
use Rattle.call_graph.proofs.Counts.{counted}
use Rattle.call_structure.specs.Calls.{called_by, calls_among, place_of, places_of}
use Rattle.call_structure.specs.Definitions.{AreDefinitions, defined_from, definition_of, nowhere, definition_at}
use Rattle.call_structure.specs.Orders.{IsCallersFirst, numbers_at}
use Rattle.call_structure.specs.Reaching.{IsDefined, CallsFunction}
use Rattle.call_structure.proofs.Places.{in_filter_map, place_found, at_place}
use Rattle.call_structure.proofs.Reaching.{numbers, number_at, as_many, defined_at, placed, row, sized, in_map}

-- ---- numbers that each stand once

-- how many of the numbers are less than this
total : ℕ → List ℕ → ℕ
total zero xs = 0
total (suc n) xs = count_of n xs + total n xs

total-past : (n x : ℕ) (xs : List ℕ) → n ≤ x → total n (x ∷ xs) ≡ total n xs
unfolding total
total-past zero x xs past = refl
total-past (suc n) x xs past =
    let rest = total-past n x xs (omega (arith, past)) in
    elim (eqb_tells x n) [
      | inl same ↦ absurd (let is = same.1 in omega (arith, past, is))
      | inr apart ↦ rw apart.0 (omega (arith, rest))
    ]

total-more : (n x : ℕ) (xs : List ℕ) → x < n → total n (x ∷ xs) ≡ 1 + total n xs
unfolding total
total-more zero x xs low = absurd (omega (arith, low))
total-more (suc n) x xs low = elim (eqb_tells x n) [
  | inl same ↦ let is = same.1 in let rest = total-past n x xs (omega (arith, is)) in rw same.0 (omega (arith, rest))
  | inr apart ↦ let other = apart.1 in let rest = total-more n x xs (omega (arith, low, other)) in rw apart.0 (omega (arith, rest))
]

all_counted : (n : ℕ) (xs : List ℕ) → ((k : ℕ) → k < length xs → get_or xs k 0 < n) → length xs ≤ total n xs
all_counted n [] all = omega arith
all_counted n (x ∷ xs) all =
    let rest = all_counted n xs (λ k low. all (suc k) (omega (arith, low))) in
    let more = total-more n x xs (all 0 (omega arith)) in
    omega (arith, rest, more)

each_once : (n : ℕ) (xs : List ℕ) → ((f : ℕ) → f < n → count_of f xs ≡ 1) → total n xs ≤ n
unfolding total
each_once zero xs once = omega arith
each_once (suc n) xs once = let rest = each_once n xs (λ f low. once f (omega (arith, low))) in let one = once n (omega arith) in omega (arith, rest, one)

-- numbers of which each stands once are no more than there are
no_more : (n : ℕ) (xs : List ℕ) → All (λ f. f < n) xs → ((f : ℕ) → f < n → count_of f xs ≡ 1) → length xs ≤ n
no_more n xs own once =
    let least = all_counted n xs (λ k low. All-get_or (λ f. f < n) xs k 0 low own) in
    let most = each_once n xs once in
    omega (arith, least, most)

-- ---- as many definitions as functions at most

pub few_definitions : (number : ℕ) (functions : List TypedFunction) → length (defined_from number functions) ≤ length functions
few_definitions number [] = omega arith
few_definitions number (function ∷ functions) = by function.defined (few_definitions (suc number) functions)
  where
    by : (name : Option At) → length (defined_from (suc number) functions) ≤ length functions → length (definition_of number name ++ defined_from (suc number) functions) ≤ length (function ∷ functions)
    by None rest = omega (arith, rest)
    by (Some name) rest = omega (arith, rest)

-- ---- functions in their order

-- each of these functions is defined, and what it calls comes later
abbrev pub Follow : Typed → List ℕ → Type 0
Follow typed [] = Unit {0}
Follow typed (f ∷ later) = IsDefined typed.functions f × ((g : ℕ) → CallsFunction typed f g → Contains later g) × Follow typed later

pub record IsOrdered (typed : Typed) (functions : List ℕ) : Type 0 where
  pub follow : Follow typed functions
  pub each : (f : ℕ) → IsDefined typed.functions f → Contains functions f
  pub few : length functions ≤ length (defined_from 0 typed.functions)

module _ (typed : Typed) (definitions : List (ℕ × At)) (are : AreDefinitions typed definitions) where
  abbrev number_of : ℕ → ℕ
  number_of place = (definition_at definitions place).0

  -- the number of a function by its place, in two ways
  numbered : (place : ℕ) → number_of place ≡ get_or (numbers typed definitions are) place 0
  numbered place = ap (λ (definition : ℕ × At). definition.0) (unwrap_or-slice_get definitions place nowhere) ∙ sym (number_at typed definitions are place)

  later_called : (place : ℕ) (later : List ℕ) → place < length definitions → ((g : ℕ) → Calls (calls_among typed definitions) place g → Contains later g)
      → (g : ℕ) → CallsFunction typed (number_of place) g → Contains (numbers_at definitions later) g
  later_called place later low among g calls =
      let q = place_found g (numbers typed definitions are) (placed typed definitions are g calls.callee) in
      let at_q = at_place g q.0 (numbers typed definitions are) q.1 in
      let there = in_filter_map (place_of definitions) (called_by typed (number_of place)) g q.0 calls.called q.1 in
      let called = subst (λ l. Contains l q.0) (sym (row typed definitions are place low)) (subst (λ k. Contains (places_of definitions (called_by typed k)) q.0) (numbered place) there) in
      let many = as_many typed definitions are in
      let size = sized typed definitions are in
      let within : q.0 < length (calls_among typed definitions) = omega (arith, many, size, at_q.0) in
      subst (Contains (numbers_at definitions later)) (numbered q.0 ∙ at_q.1) (in_map number_of later q.0 (among q.0 (called, within)))

  follow_from : (places : List ℕ) → ((k : ℕ) → k < length places → get_or places k 0 < length definitions) → AreCallersFirst (calls_among typed definitions) places
      → Follow typed (numbers_at definitions places)
  follow_from [] own first = tt
  follow_from (place ∷ later) own first =
      let low = own 0 (omega arith) in (
        subst (IsDefined typed.functions) (sym (numbered place)) (defined_at typed definitions are place low),
        later_called place later low first.0,
        follow_from later (λ k within. own (suc k) (omega (arith, within))) first.1,
      )

  pub is_ordered : (places : List ℕ) → IsOrder (calls_among typed definitions) places → IsOrdered typed (numbers_at definitions places)
  is_ordered places order =
      let size = sized typed definitions are in
      let many = as_many typed definitions are in
      let same = length_permutation _ _ are.each in
      let mapped = length-map places number_of in
      let some = no_more (length (calls_among typed definitions)) places order.own order.once in
      record {
        follow = follow_from places (λ k within. let own = All-get_or (λ f. f < length (calls_among typed definitions)) places k 0 within order.own in omega (arith, own, size)) order.callers_first;
        each = λ f defined.
            let p = place_found f (numbers typed definitions are) (placed typed definitions are f defined) in
            let at = at_place f p.0 (numbers typed definitions are) p.1 in
            let low : p.0 < length (calls_among typed definitions) = omega (arith, many, size, at.0) in
            subst (Contains (numbers_at definitions places)) (numbered p.0 ∙ at.1) (in_map number_of places p.0 (counted p.0 places (order.once p.0 low)));
        few = omega (arith, size, same, mapped, some);
      }

pub ordered : (typed : Typed) (functions : List ℕ) → IsCallersFirst typed functions → IsOrdered typed functions
ordered typed functions first = subst (IsOrdered typed) (sym first.is) (is_ordered typed first.definitions first.are first.places first.order)
