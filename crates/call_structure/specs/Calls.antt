-- The calls among the functions that a source defines.
use Rattle.std.specs.Prelude.{ℕ, List, [], Option, Some, None, map, slice_get, position, nat_eq}
use Rattle.std.specs.List.{filter_map}
use Rattle.c_typed.specs.declared.typed.Typed.{Typed}
use Rattle.c_typed.specs.declared.typed.TypedFunction.{TypedFunction}
use Rattle.called_functions.specs.Called.{called_in_option, called_in_block}
use Rattle.sat_base.specs.declared.name.At.{At}

abbrev pub called_in_function : Option TypedFunction → List ℕ
called_in_function None = []
called_in_function (Some function) = called_in_option called_in_block function.body

-- the functions that the function of this number calls, by their numbers
abbrev pub called_by : Typed → ℕ → List ℕ
called_by typed number = called_in_function (slice_get typed.functions number)

-- the place of a function in the order of the definitions, if it has one
abbrev pub place_of : List (ℕ × At) → ℕ → Option ℕ
place_of definitions number = position (nat_eq number) (map (λ (definition : ℕ × At). definition.0) definitions)

abbrev pub places_of : List (ℕ × At) → List ℕ → List ℕ
places_of definitions called = filter_map (place_of definitions) called

-- what each defined function calls, where a function is its place in the order of the definitions
abbrev pub calls_among : Typed → List (ℕ × At) → List (List ℕ)
calls_among typed definitions = map (λ (definition : ℕ × At). places_of definitions (called_by typed definition.0)) definitions
