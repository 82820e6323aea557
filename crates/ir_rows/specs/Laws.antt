-- Which lines of what a lawful tree is hold of each thing in the tree of every lawful source.
use Rattle.std.specs.List.{All}
use Rattle.lawful_sources.specs.Objects.{begins_well}
use Rattle.lawful_sources.specs.Rows.{object_exists, function_exists, place_fits, const_is_kept, width_agrees, arguments_are_counted, value_is_given, main_is_not_called, mark_is_numbered, IsOfKind}
use Rattle.lawful_ir.specs.Lawful.{tables_of, things_in, EverywhereIn}
use Rattle.lawful_ir.specs.Laws.{HoldsOfTrees}

abbrev pub ObjectsExist : Type 0
ObjectsExist = HoldsOfTrees (λ ir. EverywhereIn ir (object_exists (tables_of ir)))

abbrev pub FunctionsExist : Type 0
FunctionsExist = HoldsOfTrees (λ ir. EverywhereIn ir (function_exists (tables_of ir)))

abbrev pub ObjectsBegin : Type 0
ObjectsBegin = HoldsOfTrees (λ ir. EverywhereIn ir (begins_well (tables_of ir)))

abbrev pub PlacesFit : Type 0
PlacesFit = HoldsOfTrees (λ ir. EverywhereIn ir (place_fits (tables_of ir)))

abbrev pub ConstIsKept : Type 0
ConstIsKept = HoldsOfTrees (λ ir. EverywhereIn ir (const_is_kept (tables_of ir)))

abbrev pub WidthsAgree : Type 0
WidthsAgree = HoldsOfTrees (λ ir. EverywhereIn ir (width_agrees (tables_of ir)))

abbrev pub ArgumentsAreCounted : Type 0
ArgumentsAreCounted = HoldsOfTrees (λ ir. EverywhereIn ir (arguments_are_counted (tables_of ir)))

abbrev pub ValuesAreGiven : Type 0
ValuesAreGiven = HoldsOfTrees (λ ir. EverywhereIn ir (value_is_given (tables_of ir)))

abbrev pub MainIsNotCalled : Type 0
MainIsNotCalled = HoldsOfTrees (λ ir. EverywhereIn ir (main_is_not_called (tables_of ir)))

abbrev pub MarksAreNumbered : Type 0
MarksAreNumbered = HoldsOfTrees (λ ir. EverywhereIn ir (mark_is_numbered (tables_of ir)))

abbrev pub KindsAgree : Type 0
KindsAgree = HoldsOfTrees (λ ir. All (IsOfKind (tables_of ir)) (things_in ir))
