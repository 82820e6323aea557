-- Which lines of what is lawful hold of the objects of every source without a fault.
use Rattle.std.specs.Prelude.{◌≡◌, ℕ, true, Some, slice_get}
use Rattle.std.specs.List.{list_all}
use Rattle.c_tree.specs.declared.program.Program.{Program}
use Rattle.c_typed.specs.declared.typed.Typed.{Typed}
use Rattle.c_typed.specs.declared.typed.TypedFunction.{TypedFunction}
use Rattle.c_types.specs.Tied.{IsTyped}
use Rattle.lawful_sources.specs.Lawful.{DeclaresItsOwn}
use Rattle.lawful_sources.specs.Objects.{initial_fits, exposed_from, own_from, follow_one_another}
use Rattle.lawful_sources.specs.Statements.{in_source}
use Rattle.lawful_names.specs.Spelled.{AllSpelled}
use Rattle.lawful_objects.specs.Integers.{IntegersFit}

abbrev pub ObjectsAreDeclared : Type 0
ObjectsAreDeclared =
    (program : Program) (typed : Typed) → IsTyped program typed → (number : ℕ) (function : TypedFunction) → slice_get typed.functions number ≡ Some function → DeclaresItsOwn typed number function

abbrev pub ObjectsFollow : Type 0
ObjectsFollow = (program : Program) (typed : Typed) → IsTyped program typed → (function : ℕ) → follow_one_another (own_from function 0 typed.objects) ≡ true

abbrev pub ExposedAreGiven : Type 0
ExposedAreGiven = (program : Program) (typed : Typed) → AllSpelled program → IsTyped program typed → exposed_from (in_source typed) 0 typed.objects ≡ true

abbrev pub InitialValuesFit : Type 0
InitialValuesFit = (program : Program) (typed : Typed) → AllSpelled program → IntegersFit program → IsTyped program typed → list_all (λ object. initial_fits object object.initial) typed.objects ≡ true
