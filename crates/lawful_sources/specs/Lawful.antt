-- Lawful sources. Each line is one condition, read of the numbers of a source alone.
use Rattle.std.specs.Prelude.{◌≡◌, ℕ, ◌*◌, ◌≤◌, ◌==◌, nat_le, nat_lt, Bool, true, false, ◌&&◌, ◌||◌, if◌then◌else◌, ℤ, List, [], ◌∷◌, ◌++◌, flat_map, length, map, slice_get, Option, Some, None, option_map, is_some, is_none}
use Rattle.std.specs.List.{All, list_all, list_any, filter, sum_by}
use Rattle.std.specs.List.Sorted.{IsPermutation, IsStrictlyIncreasing}
use Rattle.std.specs.Ordering.{int_eq}
use Rattle.sat_base.specs.declared.limits.TheConstants.{TOKENS, FUNCTIONS, SCALARS, PARAMETERS, OBJECT_BYTES, CONSTANTS, STATEMENTS, VIEWS}
use Rattle.sat_base.specs.declared.name.At.{At}
use Rattle.sat_base.specs.declared.width.Width.{Width}
use Rattle.sat_base.specs.declared.width.Width.TheVariants.{W16, W32}
use Rattle.operator_meaning.specs.declared.object.Object.{Object}
use Rattle.operator_meaning.specs.declared.object.Site.{Site}
use Rattle.c_typed.specs.declared.statement.TypedBlock.{TypedBlock}
use Rattle.c_typed.specs.declared.typed.Typed.{Typed}
use Rattle.c_typed.specs.declared.typed.TypedFunction.{TypedFunction}
use Rattle.lawful_sources.specs.Things.{Thing, Constant, Statement}
use Rattle.lawful_sources.specs.Statements.{in_function, in_source}
use Rattle.lawful_sources.specs.Objects.{is_scalar, element_count, has_shape, has_function, is_no_static_view, initial_fits, begins_well, exposed_from, own_from, follow_one_another, begun_in, has_parameters, is_number}
use Rattle.lawful_sources.specs.Returns.{ending_of}
use Rattle.lawful_sources.specs.Rows.{object_exists, function_exists, place_fits, const_is_kept, width_agrees, arguments_are_counted, argument_fits, value_is_given, callee_is_defined, is_main, main_is_not_called, mark_is_numbered, IsOfKind, sites_standing, conversion_stands, is_in_loop, return_fits}

-- ---- limits

abbrev pub is_own : ℕ → Object → Bool
is_own function object = is_number function object.function

abbrev pub is_own_scalar : ℕ → Object → Bool
is_own_scalar function object = is_own function object && is_scalar object

abbrev pub is_own_view : ℕ → Object → Bool
is_own_view function object = is_own function object && object.view

abbrev pub count : {A : Type 0} → (A → Bool) → List A → ℕ
count test list = length (filter test list)

abbrev pub bytes_of_width : Width → ℕ
bytes_of_width W16 = 2
bytes_of_width W32 = 4

-- a view has no bytes of its own
abbrev pub bytes_of_object : Object → ℕ
bytes_of_object object = if object.view then 0 else element_count object * bytes_of_width object.width

abbrev pub is_statement : Thing → Bool
is_statement Statement = true
is_statement thing = false

abbrev pub has_few_parameters : TypedFunction → Bool
has_few_parameters function = nat_le (length function.params) PARAMETERS

-- ---- functions

-- no two places have this entry
abbrev pub StandsOnce : {A : Type 0} → List A → A → Type 0
StandsOnce list x = (one other : ℕ) → slice_get list one ≡ Some x → slice_get list other ≡ Some x → one ≡ other

abbrev pub name_of : TypedFunction → List ℕ
name_of function = function.name

-- the token of the name in its definition, if it has one
abbrev pub definition_token : TypedFunction → Option ℕ
definition_token function = option_map (λ at. at.tok) function.defined

-- a function has a body where it has the name in its definition, and else no parameters
abbrev pub is_whole : TypedFunction → Bool
is_whole function = if is_some function.body then is_some function.defined else (is_none function.defined && length function.params == 0)

abbrev pub body_returns : Option TypedBlock → Bool
body_returns None = true
body_returns (Some body) = (ending_of body).returns

-- a function other than main that gives a number surely returns
abbrev pub returns_surely : TypedFunction → Bool
returns_surely function = is_none function.gives || (is_main function || body_returns function.body)

abbrev pub is_not_16 : Option Width → Bool
is_not_16 (Some W16) = false
is_not_16 gives = true

-- a definition of main without parameters that gives a 32-bit number or nothing
abbrev pub is_good_main : TypedFunction → Bool
is_good_main function = is_main function && (is_some function.body && (length function.params == 0 && is_not_16 function.gives))

-- the objects of a function are its parameters, and then those of its blocks in their order
abbrev pub DeclaresItsOwn : Typed → ℕ → TypedFunction → Type 0
DeclaresItsOwn source number function = function.params ++ begun_in (in_function source function) ≡ own_from number 0 source.objects

-- ---- sites and constants

abbrev pub token_of : Site → ℕ
token_of site = site.tok

abbrev pub at_of : Site → At
at_of site = record { tok = site.tok; pos = site.pos }

-- a relational constant
abbrev pub standing_constant : Thing → List ℤ
standing_constant (Constant value) = value ∷ []
standing_constant thing = []

abbrev pub constants_standing : List Thing → List ℤ
constants_standing things = flat_map standing_constant things

-- where the name in a definition stands
abbrev pub token_in : Option At → ℕ
token_in None = 0
token_in (Some at) = at.tok

-- a definition among others, in the order of the text
abbrev pub with_definition : TypedFunction → List TypedFunction → List TypedFunction
with_definition function [] = function ∷ []
with_definition function (other ∷ rest) =
    if nat_lt (token_in other.defined) (token_in function.defined) then other ∷ with_definition function rest else function ∷ other ∷ rest

-- the functions that have a body, in the order of their definitions in the text
abbrev pub definitions_in : List TypedFunction → List TypedFunction
definitions_in [] = []
definitions_in (function ∷ rest) = if is_some function.body then with_definition function (definitions_in rest) else definitions_in rest

-- each value once, where it first stands; these stand before
abbrev pub distinct_after : List ℤ → List ℤ → List ℤ
distinct_after before [] = []
distinct_after before (value ∷ rest) =
    if list_any (int_eq value) before then distinct_after before rest else value ∷ distinct_after (value ∷ before) rest

-- each thing that stands in the source passes a test
abbrev pub Everywhere : Typed → (Thing → Bool) → Type 0
Everywhere source test = list_all test (in_source source) ≡ true

pub record IsLawful (source : Typed) : Type 0 where
  -- limits
  pub functions_are_few : length source.functions ≤ FUNCTIONS
  pub scalars_are_few : (function : ℕ) → count (is_own_scalar function) source.objects ≤ SCALARS
  pub parameters_are_few : list_all has_few_parameters source.functions ≡ true
  pub data_are_few : sum_by bytes_of_object source.objects ≤ OBJECT_BYTES
  pub constants_are_few : length source.constants ≤ CONSTANTS
  pub statements_are_few : count is_statement (in_source source) ≤ STATEMENTS
  pub views_are_few : (function : ℕ) → count (is_own_view function) source.objects ≤ VIEWS
  pub sites_are_few : length source.sites ≤ TOKENS
  -- each number is one of the source's own
  pub objects_exist : Everywhere source (object_exists source)
  pub functions_exist : Everywhere source (function_exists source)
  -- functions and objects
  pub functions_are_whole : list_all is_whole source.functions ≡ true
  -- no two functions have one name, and the names in no two definitions stand at one token
  pub names_differ : (name : List ℕ) → StandsOnce (map name_of source.functions) name
  pub definitions_differ : (token : ℕ) → StandsOnce (map definition_token source.functions) (Some token)
  pub objects_have_shapes : list_all has_shape source.objects ≡ true
  pub objects_have_functions : list_all (λ object. has_function source object object.function) source.objects ≡ true
  pub parameters_are_objects : list_all (has_parameters source) source.functions ≡ true
  pub objects_are_declared : (number : ℕ) (function : TypedFunction) → slice_get source.functions number ≡ Some function → DeclaresItsOwn source number function
  -- no other object stands between those of a function
  pub objects_follow : (function : ℕ) → follow_one_another (own_from function 0 source.objects) ≡ true
  pub views_are_not_static : list_all is_no_static_view source.objects ≡ true
  pub initial_values_fit : list_all (λ object. initial_fits object object.initial) source.objects ≡ true
  pub objects_begin : Everywhere source (begins_well source)
  pub exposed_are_given : exposed_from (in_source source) 0 source.objects ≡ true
  -- places, calls and statements
  pub places_fit : Everywhere source (place_fits source)
  pub const_is_kept : Everywhere source (const_is_kept source)
  pub widths_agree : Everywhere source (width_agrees source)
  pub arguments_are_counted : Everywhere source (arguments_are_counted source)
  pub arguments_fit : Everywhere source argument_fits
  pub values_are_given : Everywhere source (value_is_given source)
  pub callees_are_defined : Everywhere source (callee_is_defined source)
  pub main_is_not_called : Everywhere source (main_is_not_called source)
  pub has_main : list_any is_good_main source.functions ≡ true
  pub functions_return : list_all returns_surely source.functions ≡ true
  pub returns_fit : Everywhere source return_fits
  pub leaves_stand_in_loops : Everywhere source is_in_loop
  pub conversions_stand : Everywhere source conversion_stands
  -- sites, constants and weights
  pub sites_are_in_order : IsStrictlyIncreasing (map token_of source.sites)
  pub marks_are_numbered : Everywhere source (mark_is_numbered source)
  pub sites_stand_once : IsPermutation (sites_standing (in_source source)) (map at_of source.sites)
  pub kinds_agree : All (IsOfKind source) (in_source source)
  pub constants_stand : source.constants ≡ distinct_after [] (constants_standing (flat_map (in_function source) (definitions_in source.functions)))
  pub weights_are_known : source.weights ≡ 1
