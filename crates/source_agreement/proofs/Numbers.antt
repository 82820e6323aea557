-- Where the functions of a source stand in its tree.
use Rattle.std.proofs.Common.{◌≡◌, ◌<◌, ℕ, zero, suc, ◌+◌, true, false, IsTrue, List, [], ◌∷◌, length, get_or, refl, sym, ap, ◌∙◌, subst, arith, true≢false}
use Rattle.std.specs.Prelude.{Option, Some, None, slice_get, unwrap_or}
use Rattle.std.specs.Option.{option_map}
use Rattle.std.proofs.lemmas.Option.{none-some}
use Rattle.sat_base.specs.declared.name.At.{At}
use Rattle.c_typed.specs.declared.typed.Typed.{Typed}
use Rattle.c_typed.specs.declared.typed.TypedFunction.{TypedFunction}
use Rattle.call_structure.specs.Definitions.{AreDefinitions, nowhere}
use Rattle.call_structure.specs.Reaching.{IsDefined}
use Rattle.call_structure.proofs.Places.{place_found, at_place}
use Rattle.call_structure.proofs.Reaching.{numbers, number_at, as_many, placed}
use Rattle.ir_arena.specs.Tree.{TreeFunction}
use Rattle.source_trees.specs.Expressions.{TreeSetting}
use Rattle.whole_trees.specs.Sources.{number_in, numbers_from, numbers_of, setting_for, function_tree, function_at, nameless, functions_along, defined_functions}
use Rattle.source_agreement.specs.Agreement.{is_defined}

-- ---- which functions are defined

pub defined_by : (functions : List TypedFunction) (number : ℕ) → IsTrue (is_defined functions number) → IsDefined functions number
defined_by functions number holds = by (slice_get functions number) refl
  where
    named : (function : TypedFunction) (name : Option At) → slice_get functions number ≡ Some function → function.defined ≡ name → IsDefined functions number
    named function None is none = let no : false ≡ true = rw (is, none) at holds in absurd (true≢false (sym no))
    named function (Some name) is some = (name, record { function = function; there = is; defined = some })

    by : (function : Option TypedFunction) → slice_get functions number ≡ function → IsDefined functions number
    by None is = let no : false ≡ true = rw is at holds in absurd (true≢false (sym no))
    by (Some function) is = named function function.defined is refl

-- ---- the number of a function in the tree

number_from : (definitions : List (ℕ × At)) (functions : List TypedFunction) (first number : ℕ) (function : TypedFunction) → slice_get functions number ≡ Some function
    → unwrap_or (slice_get (numbers_from definitions first functions) number) 0 ≡ number_in definitions (first + number)
number_from definitions [] first number function there = absurd (none-some function there)
number_from definitions (f ∷ functions) first zero function there = let same : first ≡ first + 0 = omega arith in ap (number_in definitions) same
number_from definitions (f ∷ functions) first (suc number) function there =
    let same : (first + 1) + number ≡ first + suc number = omega arith in
    number_from definitions functions (first + 1) number function there ∙ ap (number_in definitions) same

pub number_is : (typed : Typed) (definitions : List (ℕ × At)) (number : ℕ) → IsDefined typed.functions number
    → unwrap_or (slice_get (numbers_of typed definitions) number) 0 ≡ number_in definitions number
number_is typed definitions number defined =
    let same : 0 + number ≡ number = omega arith in
    number_from definitions typed.functions 0 number defined.1.function defined.1.there ∙ ap (number_in definitions) same

-- ---- the function there

-- some number of a cut is the first of the function's own
pub record IsThere (here : TreeSetting) (functions : List TreeFunction) (place : ℕ) (function : TypedFunction) : Type 0 where
  pub first : ℕ
  pub is : slice_get functions place ≡ Some (function_tree here function first).function

along : (here : TreeSetting) (functions : List TypedFunction) (first place : ℕ) (function : TypedFunction) → slice_get functions place ≡ Some function
    → IsThere here (functions_along here functions first) place function
along here [] first place function there = absurd (none-some function there)
along here (f ∷ functions) first zero function there =
    record { first = first; is = ap (λ (o : Option TypedFunction). option_map (λ (g : TypedFunction). (function_tree here g first).function) o) there }
along here (f ∷ functions) first (suc place) function there =
    let rest = along here functions (function_tree here f first).next place function there in record { first = rest.first; is = rest.is }

pub as_many_functions : (here : TreeSetting) (functions : List TypedFunction) (first : ℕ) → length (functions_along here functions first) ≡ length functions
as_many_functions here [] first = refl
as_many_functions here (function ∷ functions) first = ap suc (as_many_functions here functions (function_tree here function first).next)

at_definition : (typed : Typed) (definitions : List (ℕ × At)) (place : ℕ) → place < length definitions
    → slice_get (defined_functions typed definitions) place ≡ Some (function_at typed.functions (get_or definitions place nowhere).0)
at_definition typed [] place low = absurd (omega (arith, low))
at_definition typed (definition ∷ definitions) zero low = refl
at_definition typed (definition ∷ definitions) (suc place) low = at_definition typed definitions place (omega (arith, low))

pub as_many_defined : (typed : Typed) (definitions : List (ℕ × At)) → length (defined_functions typed definitions) ≡ length definitions
as_many_defined typed [] = refl
as_many_defined typed (definition ∷ definitions) = ap suc (as_many_defined typed definitions)

module _ (typed : Typed) (definitions : List (ℕ × At)) (are : AreDefinitions typed definitions) where
  -- a defined function stands in the tree at its number there
  pub there : (f : ℕ) (defined : IsDefined typed.functions f)
      → IsThere (setting_for typed definitions) (functions_along (setting_for typed definitions) (defined_functions typed definitions) 0) (number_in definitions f) defined.1.function
  there f defined =
      let p = place_found f (numbers typed definitions are) (placed typed definitions are f defined) in
      let at = at_place f p.0 (numbers typed definitions are) p.1 in
      let many = as_many typed definitions are in
      let low : p.0 < length definitions = omega (arith, many, at.0) in
      let number : number_in definitions f ≡ p.0 = ap (λ (o : Option ℕ). unwrap_or o 0) p.1 in
      let own : (get_or definitions p.0 nowhere).0 ≡ f = sym (number_at typed definitions are p.0) ∙ at.1 in
      let at_number : slice_get (defined_functions typed definitions) p.0 ≡ Some (function_at typed.functions f) =
      subst (λ (n : ℕ). slice_get (defined_functions typed definitions) p.0 ≡ Some (function_at typed.functions n)) own (at_definition typed definitions p.0 low) in
      let is : slice_get (defined_functions typed definitions) p.0 ≡ Some defined.1.function =
      subst (λ (o : Option TypedFunction). slice_get (defined_functions typed definitions) p.0 ≡ Some (unwrap_or o nameless)) defined.1.there at_number in
      let found = along (setting_for typed definitions) (defined_functions typed definitions) 0 p.0 defined.1.function is in
      record { first = found.first; is = ap (slice_get (functions_along (setting_for typed definitions) (defined_functions typed definitions) 0)) number ∙ found.is }
