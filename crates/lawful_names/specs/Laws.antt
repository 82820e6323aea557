-- Which lines of what is lawful hold of every source without a fault by what its names stand for.
use Rattle.std.specs.Prelude.{◌≡◌, ℕ, ◌≤◌, true, List, length, map}
use Rattle.std.specs.List.{list_all, list_any, sum_by}
use Rattle.sat_base.specs.declared.limits.TheConstants.{CONSTANTS, FUNCTIONS, OBJECT_BYTES, SCALARS, STATEMENTS, VIEWS}
use Rattle.c_tree.specs.declared.program.Program.{Program}
use Rattle.c_typed.specs.declared.typed.Typed.{Typed}
use Rattle.c_types.specs.Tied.{IsTyped}
use Rattle.lawful_sources.specs.Lawful.{is_own_scalar, is_own_view, bytes_of_object, count, has_few_parameters, is_statement, is_good_main, StandsOnce, name_of, Everywhere}
use Rattle.lawful_sources.specs.Statements.{in_source}
use Rattle.lawful_names.specs.Spelled.{AllSpelled}
use Rattle.lawful_sources.specs.Objects.{begins_well, has_shape, has_function, has_parameters}
use Rattle.lawful_sources.specs.Rows.{object_exists, place_fits, function_exists, const_is_kept, width_agrees, arguments_are_counted, argument_fits, value_is_given, callee_is_defined, main_is_not_called, conversion_stands}

abbrev pub ObjectsExist : Type 0
ObjectsExist = (program : Program) (typed : Typed) → IsTyped program typed → Everywhere typed (object_exists typed)

abbrev pub FunctionsExist : Type 0
FunctionsExist = (program : Program) (typed : Typed) → IsTyped program typed → Everywhere typed (function_exists typed)

abbrev pub ConstIsKept : Type 0
ConstIsKept = (program : Program) (typed : Typed) → IsTyped program typed → Everywhere typed (const_is_kept typed)

abbrev pub WidthsAgree : Type 0
WidthsAgree = (program : Program) (typed : Typed) → IsTyped program typed → Everywhere typed (width_agrees typed)

abbrev pub ArgumentsAreCounted : Type 0
ArgumentsAreCounted = (program : Program) (typed : Typed) → IsTyped program typed → Everywhere typed (arguments_are_counted typed)

abbrev pub ArgumentsFit : Type 0
ArgumentsFit = (program : Program) (typed : Typed) → IsTyped program typed → Everywhere typed argument_fits

abbrev pub ValuesAreGiven : Type 0
ValuesAreGiven = (program : Program) (typed : Typed) → IsTyped program typed → Everywhere typed (value_is_given typed)

abbrev pub CalleesAreDefined : Type 0
CalleesAreDefined = (program : Program) (typed : Typed) → IsTyped program typed → Everywhere typed (callee_is_defined typed)

abbrev pub MainIsNotCalled : Type 0
MainIsNotCalled = (program : Program) (typed : Typed) → IsTyped program typed → Everywhere typed (main_is_not_called typed)

abbrev pub ConversionsStand : Type 0
ConversionsStand = (program : Program) (typed : Typed) → IsTyped program typed → Everywhere typed conversion_stands

abbrev pub HasMain : Type 0
HasMain = (program : Program) (typed : Typed) → IsTyped program typed → list_any is_good_main typed.functions ≡ true

abbrev pub ConstantsAreFew : Type 0
ConstantsAreFew = (program : Program) (typed : Typed) → IsTyped program typed → length typed.constants ≤ CONSTANTS

abbrev pub PlacesFit : Type 0
PlacesFit = (program : Program) (typed : Typed) → AllSpelled program → IsTyped program typed → Everywhere typed (place_fits typed)

abbrev pub ObjectsHaveShapes : Type 0
ObjectsHaveShapes = (program : Program) (typed : Typed) → AllSpelled program → IsTyped program typed → list_all has_shape typed.objects ≡ true

abbrev pub ParametersAreObjects : Type 0
ParametersAreObjects = (program : Program) (typed : Typed) → IsTyped program typed → list_all (has_parameters typed) typed.functions ≡ true

abbrev pub FunctionsAreFew : Type 0
FunctionsAreFew = (program : Program) (typed : Typed) → IsTyped program typed → length typed.functions ≤ FUNCTIONS

abbrev pub ObjectsHaveFunctions : Type 0
ObjectsHaveFunctions = (program : Program) (typed : Typed) → IsTyped program typed → list_all (λ object. has_function typed object object.function) typed.objects ≡ true

abbrev pub DataAreFew : Type 0
DataAreFew = (program : Program) (typed : Typed) → AllSpelled program → IsTyped program typed → sum_by bytes_of_object typed.objects ≤ OBJECT_BYTES

abbrev pub StatementsAreFew : Type 0
StatementsAreFew = (program : Program) (typed : Typed) → IsTyped program typed → count is_statement (in_source typed) ≤ STATEMENTS

abbrev pub ObjectsBegin : Type 0
ObjectsBegin = (program : Program) (typed : Typed) → AllSpelled program → IsTyped program typed → Everywhere typed (begins_well typed)

abbrev pub ParametersAreFew : Type 0
ParametersAreFew = (program : Program) (typed : Typed) → IsTyped program typed → list_all has_few_parameters typed.functions ≡ true

abbrev pub ScalarsAreFew : Type 0
ScalarsAreFew = (program : Program) (typed : Typed) → AllSpelled program → IsTyped program typed → (function : ℕ) → count (is_own_scalar function) typed.objects ≤ SCALARS

abbrev pub ViewsAreFew : Type 0
ViewsAreFew = (program : Program) (typed : Typed) → IsTyped program typed → (function : ℕ) → count (is_own_view function) typed.objects ≤ VIEWS

abbrev pub NamesDiffer : Type 0
NamesDiffer = (program : Program) (typed : Typed) → IsTyped program typed → (name : List ℕ) → StandsOnce (map name_of typed.functions) name
