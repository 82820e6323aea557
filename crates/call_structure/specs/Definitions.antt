-- The functions that a source defines. A definition is the number of its function with the name in it.
use Rattle.std.specs.Prelude.{ℕ, suc, List, [], ◌∷◌, ◌++◌, Option, Some, None, unwrap_or, slice_get}
use Rattle.std.specs.List.Sorted.{IsPermutation, IsSortedByKey}
use Rattle.std.specs.Ordering.{nat_cmp}
use Rattle.c_typed.specs.declared.typed.Typed.{Typed}
use Rattle.c_typed.specs.declared.typed.TypedFunction.{TypedFunction}
use Rattle.sat_base.specs.declared.name.At.{At}

-- the definition of the function of this number, if it has one
abbrev pub definition_of : ℕ → Option At → List (ℕ × At)
definition_of number None = []
definition_of number (Some name) = (number, name) ∷ []

-- the definitions of these functions, of which the first has this number
abbrev pub defined_from : ℕ → List TypedFunction → List (ℕ × At)
defined_from number [] = []
defined_from number (function ∷ functions) = definition_of number function.defined ++ defined_from (suc number) functions

-- all definitions of a source, in their order
pub record AreDefinitions (typed : Typed) (definitions : List (ℕ × At)) : Type 0 where
  pub each : IsPermutation (defined_from 0 typed.functions) definitions
  pub in_order : IsSortedByKey (λ (definition : ℕ × At). definition.1.tok) nat_cmp definitions

-- what stands for a definition where there is none
abbrev pub nowhere : ℕ × At
nowhere = (0, record { tok = 0; pos = record { line = 0; col = 0 } })

abbrev pub definition_at : List (ℕ × At) → ℕ → ℕ × At
definition_at definitions place = unwrap_or (slice_get definitions place) nowhere
