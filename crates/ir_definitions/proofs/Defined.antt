-- What stands in the definitions of a lawful source, in their order, is what stands in the source, in another order.
use Rattle.std.proofs.Common.{◌≡◌, ◌≤◌, ℕ, suc, ◌+◌, List, [], ◌∷◌, true, length, map, IsPermutation, refl, sym, ap, ◌∙◌, subst, append-nil, arith}
use Rattle.std.proofs.lemmas.List.{length-map}
use Rattle.std.proofs.lemmas.List.Concat.{flat_map-append}
use Rattle.std.proofs.lemmas.List.Folds.{flat_map-map}
use Rattle.std.proofs.lemmas.List.Sorted.{length_permutation}
use Rattle.std.specs.Prelude.{flat_map, Option, Some, None}
use Rattle.std.specs.List.{list_all}
use Rattle.sat_base.specs.declared.name.At.{At}
use Rattle.c_typed.specs.declared.statement.TypedBlock.{TypedBlock}
use Rattle.c_typed.specs.declared.typed.Typed.{Typed}
use Rattle.c_typed.specs.declared.typed.TypedFunction.{TypedFunction}
use Rattle.call_structure.specs.Definitions.{AreDefinitions, definition_of, defined_from}
use Rattle.ir_arena.specs.declared.ir.Ir.{Ir}
use Rattle.ir_arena.specs.Placed.{function_of}
use Rattle.lawful_ir.specs.Built.{IsTreeOf}
use Rattle.whole_trees.specs.Sources.{setting_for, function_at, numbers_defined, defined_functions}
use Rattle.source_agreement.proofs.Numbers.{as_many_functions, as_many_defined}
use Rattle.source_agreement.proofs.Orders.{few_definitions}
use Rattle.lawful_sources.specs.Lawful.{IsLawful, is_whole}
use Rattle.lawful_sources.specs.Statements.{in_body, in_function, in_source}
use Rattle.lawful_sources.specs.Things.{Thing}
use Rattle.lawful_ir.proofs.Alike.{left, right, never}
use Rattle.lawful_ir.proofs.Wholes.{functions-are, defined_things}
use Rattle.ir_definitions.proofs.Permuted.{flat_map-permuted}

module _ (typed : Typed) where
  abbrev in_definition : ℕ × At → List Thing
  in_definition definition = in_function typed (function_at typed.functions definition.0)

  -- nothing stands where there is no definition
  bodiless : (function : TypedFunction) → is_whole function ≡ true → function.defined ≡ None → in_function typed function ≡ []
  bodiless function whole is = by function.body refl
    where
      by : (body : Option TypedBlock) → function.body ≡ body → in_body typed function.gives body ≡ []
      by None same = refl
      by (Some body) same = never (rw (same, is) at whole)

  one : (number : ℕ) (function : TypedFunction) (name : Option At) → function_at typed.functions number ≡ function → is_whole function ≡ true → function.defined ≡ name
      → flat_map in_definition (definition_of number name) ≡ in_function typed function
  one number function None at whole is = sym (bodiless function whole is)
  one number function (Some name) at whole is = append-nil _ ∙ ap (in_function typed) at

  each : (number : ℕ) (rest : List TypedFunction) → ((next : ℕ) → function_at typed.functions (number + next) ≡ function_at rest next) → list_all is_whole rest ≡ true
      → flat_map in_definition (defined_from number rest) ≡ flat_map (in_function typed) rest
  each number [] same whole = refl
  each number (function ∷ rest) same whole =
      let here : function_at typed.functions number ≡ function = subst (λ n. function_at typed.functions n ≡ function) (omega arith) (same 0) in
      let later : (next : ℕ) → function_at typed.functions (suc number + next) ≡ function_at rest next = λ next. subst (λ n. function_at typed.functions n ≡ function_at rest next) (omega arith) (same (suc next)) in
      flat_map-append in_definition (definition_of number function.defined) (defined_from (suc number) rest)
      ∙ rw (one number function function.defined here (left (is_whole function) _ whole) refl, each (suc number) rest later (right (is_whole function) _ whole)) refl

  definitions-hold : (definitions : List (ℕ × At)) → AreDefinitions typed definitions → list_all is_whole typed.functions ≡ true
      → IsPermutation (in_source typed) (flat_map (in_function typed) (defined_functions typed definitions))
  definitions-hold definitions are whole =
      let all : flat_map in_definition (defined_from 0 typed.functions) ≡ in_source typed = each 0 typed.functions (λ next. ap (function_at typed.functions) (omega arith)) whole in
      let listed : flat_map in_definition definitions ≡ flat_map (in_function typed) (defined_functions typed definitions) =
      sym (flat_map-map (in_function typed) (function_at typed.functions) (numbers_defined definitions)
      ∙ flat_map-map (λ (number : ℕ). in_function typed (function_at typed.functions number)) (λ (definition : ℕ × At). definition.0) definitions) in
      subst (λ l. IsPermutation l (flat_map (in_function typed) (defined_functions typed definitions))) all
      (subst (IsPermutation (flat_map in_definition (defined_from 0 typed.functions))) listed (flat_map-permuted in_definition _ _ are.each))

module _ (typed : Typed) (ir : Ir) (lawful : IsLawful typed) (is : IsTreeOf typed ir) where
  pub source-holds : IsPermutation (in_source typed) (defined_things typed ir lawful is)
  source-holds = definitions-hold typed is.definitions is.are lawful.functions_are_whole

  pub fewer-functions : length ir.functions ≤ length typed.functions
  fewer-functions =
      let along : length (map function_of ir.functions) ≡ length (defined_functions typed is.definitions) =
      ap length (functions-are typed ir lawful is) ∙ as_many_functions (setting_for typed is.definitions) (defined_functions typed is.definitions) 0 in
      omega (
        arith,
        length-map ir.functions function_of,
        along,
        as_many_defined typed is.definitions,
        length_permutation _ _ is.are.each,
        few_definitions 0 typed.functions,
      )
