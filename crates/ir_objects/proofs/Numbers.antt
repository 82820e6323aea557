-- A function of the source has a number in its tree, and no other function has that.
use Rattle.std.proofs.Common.{◌≡◌, ◌<◌, ℕ, suc, List, [], ◌∷◌, Bool, false, length, get_or, nat_eq, refl, sym, ap, ◌∙◌, inl, inr, arith}
use Rattle.std.proofs.lemmas.Bool.{cases_lt, eq-eqb, lt-ltb}
use Rattle.std.proofs.lemmas.Bool.Decides.{eqb_tells, nat_tests}
use Rattle.std.proofs.lemmas.List.{get_or_default}
use Rattle.std.proofs.lemmas.List.Sorted.{IsPermutation-map}
use Rattle.std.proofs.lemmas.List.Sums.{position_or_len_is}
use Rattle.std.proofs.lemmas.Map.Keys.{IsDistinct-IsPermutation, apart_from_distinct}
use Rattle.std.proofs.lemmas.Option.{slice_get_within}
use Rattle.std.proofs.Math.ListN.{get_or-eq_default}
use Rattle.std.specs.Prelude.{◌==◌, nat_lt, if◌then◌else◌, ◌++◌, Option, Some, None, unwrap_or}
use Rattle.std.specs.List.{AllByRecursion, IsDistinct, position_or_len}
use Rattle.sat_base.specs.declared.name.At.{At}
use Rattle.c_typed.specs.declared.typed.Typed.{Typed}
use Rattle.c_typed.specs.declared.typed.TypedFunction.{TypedFunction}
use Rattle.call_structure.specs.Definitions.{AreDefinitions, defined_from, definition_of}
use Rattle.call_structure.specs.Reaching.{IsDefined}
use Rattle.call_structure.proofs.Places.{place_found, at_place}
use Rattle.call_structure.proofs.Reaching.{placed}
use Rattle.whole_trees.specs.Sources.{number_in, numbers_defined}

-- ---- each function is defined once

-- a number that is less than that of the first of these functions is not among those of their definitions
later-differ : (number first : ℕ) (functions : List TypedFunction) → number < first → AllByRecursion (λ (other : ℕ). nat_eq number other ≡ false) (numbers_defined (defined_from first functions))
later-differ number first [] less = tt
later-differ number first (function ∷ functions) less = by function.defined (later-differ number (suc first) functions (omega (arith, less)))
  where
    by : (name : Option At) → AllByRecursion (λ (other : ℕ). nat_eq number other ≡ false) (numbers_defined (defined_from (suc first) functions))
        → AllByRecursion (λ (other : ℕ). nat_eq number other ≡ false) (numbers_defined (definition_of first name ++ defined_from (suc first) functions))
    by None rest = rest
    by (Some name) rest = (grind (arith, nat_tests), rest)

differ-from : (first : ℕ) (functions : List TypedFunction) → IsDistinct nat_eq (numbers_defined (defined_from first functions))
unfolding IsDistinct
differ-from first [] = tt
differ-from first (function ∷ functions) = by function.defined (differ-from (suc first) functions)
  where
    by : (name : Option At) → IsDistinct nat_eq (numbers_defined (defined_from (suc first) functions)) → IsDistinct nat_eq (numbers_defined (definition_of first name ++ defined_from (suc first) functions))
    by None rest = rest
    by (Some name) rest = (later-differ first (suc first) functions (omega arith), rest)

flips : (n m : ℕ) → nat_eq n m ≡ nat_eq m n
flips n m = grind (arith, nat_tests)

module _ (typed : Typed) (definitions : List (ℕ × At)) (are : AreDefinitions typed definitions) where
  abbrev defined : List ℕ
  defined = numbers_defined definitions

  differ : IsDistinct nat_eq defined
  differ = IsDistinct-IsPermutation nat_eq flips _ _ (IsPermutation-map (λ (definition : ℕ × At). definition.0) _ _ are.each) (differ-from 0 typed.functions)

  -- the function that is defined at a place has that as its number in the tree
  pub own-number : (place : ℕ) → place < length defined → number_in definitions (get_or defined place 0) ≡ place
  own-number place low =
      let first : position_or_len (nat_eq (get_or defined place 0)) defined ≡ place = position_or_len_is (nat_eq (get_or defined place 0)) defined place 0 (omega (arith, low))
      (λ k less. flips (get_or defined place 0) (get_or defined k 0) ∙ apart_from_distinct nat_eq defined k place 0 differ less low) (λ within. eq-eqb _ _ refl) in
      ap (λ (n : ℕ). unwrap_or (if nat_lt n (length defined) then Some n else None) 0) first
      ∙ ap (λ (b : Bool). unwrap_or (if b then Some place else None) 0) (lt-ltb place (length defined) low)

  -- the function that has this number in the tree, or else a number that no function has
  abbrev pub number_from : ℕ → ℕ
  number_from number = get_or defined number (length typed.functions)

  from-there : (function : ℕ) → IsDefined typed.functions function → number_from (number_in definitions function) ≡ function
  from-there function is =
      let place = place_found function defined (placed typed definitions are function is) in
      let at = at_place function place.0 defined place.1 in
      ap (λ (found : Option ℕ). number_from (unwrap_or found 0)) place.1 ∙ get_or_default defined place.0 (length typed.functions) 0 at.0 ∙ at.1

  to-there : (number function : ℕ) → IsDefined typed.functions function → number_from number ≡ function → number ≡ number_in definitions function
  to-there number function is from = elim (cases_lt number (length defined)) [
    | inl low ↦ sym (own-number number low) ∙ ap (number_in definitions) (get_or_default defined number 0 (length typed.functions) low ∙ from)
    | inr high ↦
        let none : length typed.functions ≡ function = sym (get_or-eq_default defined (length typed.functions) high) ∙ from in
        absurd (let within = slice_get_within typed.functions function is.1.function is.1.there in omega (arith, none, within))
  ]

  -- a function has a number in the tree exactly where it is the function of that number
  pub same-function : (number function : ℕ) → IsDefined typed.functions function → (number == number_in definitions function) ≡ (number_from number == function)
  same-function number function is = elim (eqb_tells number (number_in definitions function)) [
    | inl same ↦ same.0 ∙ sym (eq-eqb _ _ (ap number_from same.1 ∙ from-there function is))
    | inr apart ↦ elim (eqb_tells (number_from number) function) [
      | inl same ↦ absurd (apart.1 (to-there number function is same.1))
      | inr other ↦ apart.0 ∙ sym other.0
    ]
  ]
