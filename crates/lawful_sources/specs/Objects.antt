-- What holds of each object of a lawful source.
use Rattle.std.specs.Prelude.{ℕ, ◌+◌, ◌*◌, ◌==◌, Bool, true, false, not, ◌&&◌, ◌||◌, if◌then◌else◌, ℤ, pos, negsuc, int_le, List, [], ◌∷◌, flat_map, length, slice_get, Option, Some, None, is_some}
use Rattle.std.specs.List.{list_all, list_any}
use Rattle.std.specs.Ordering.{int_eq}
use Rattle.sat_base.specs.declared.width.Width.{Width}
use Rattle.sat_base.specs.declared.width.Width.TheVariants.{W16, W32}
use Rattle.operator_meaning.specs.declared.object.Object.{Object}
use Rattle.operator_meaning.specs.declared.object.Storage.{Storage}
use Rattle.operator_meaning.specs.declared.object.Storage.TheVariants.{Static, Automatic, Parameter}
use Rattle.c_typed.specs.declared.typed.Typed.{Typed}
use Rattle.c_typed.specs.declared.typed.TypedFunction.{TypedFunction}
use Rattle.lawful_sources.specs.Things.{Bare, Given, Thing, Place, Begins}

abbrev pub is_static : Storage → Bool
is_static Static = true
is_static Automatic = false
is_static Parameter = false

abbrev pub is_parameter : Storage → Bool
is_parameter Static = false
is_parameter Automatic = false
is_parameter Parameter = true

-- ---- kinds of object

abbrev pub is_scalar : Object → Bool
is_scalar object = not object.view && object.rows == 0

-- of two dimensions
abbrev pub is_table : Object → Bool
is_table object = not object.view && not (object.columns == 0)

-- one index reaches an element of it: an array of one dimension, or a view
abbrev pub is_line : Object → Bool
is_line object = object.view || (not (object.rows == 0) && object.columns == 0)

-- a missing dimension is 0, and only arrays have any
abbrev pub has_shape : Object → Bool
has_shape object =
    (not (object.rows == 0) || object.columns == 0) && (not (object.view || is_parameter object.storage) || object.rows == 0)

-- ---- functions

abbrev pub is_complete : Option TypedFunction → Bool
is_complete None = false
is_complete (Some function) = is_some function.body

-- the number is that of a function with a definition; an object of no function is static
abbrev pub has_function : Typed → Object → Option ℕ → Bool
has_function source object None = is_static object.storage
has_function source object (Some number) = is_complete (slice_get source.functions number)

-- no pointer is static
abbrev pub is_no_static_view : Object → Bool
is_no_static_view object = not (object.view && is_static object.storage)

-- ---- initial values

abbrev pub element_count : Object → ℕ
element_count object = if object.rows == 0 then 1 else (if object.columns == 0 then object.rows else object.rows * object.columns)

abbrev pub fits_width : Width → ℤ → Bool
fits_width W16 value = int_le (negsuc 32767) value && int_le value (pos 32767)
fits_width W32 value = int_le (negsuc 2147483647) value && int_le value (pos 2147483647)

-- all its values, each in its width; none for a parameter, for a view, and maybe for an automatic scalar
abbrev pub initial_fits : Object → Option (List ℤ) → Bool
initial_fits object None = object.view || (is_parameter object.storage || (not (is_static object.storage) && object.rows == 0))
initial_fits object (Some values) =
    not (object.view || is_parameter object.storage) && (length values == element_count object && list_all (fits_width object.width) values)

-- an automatic scalar has an initial value where the value that it starts with is a constant expression
abbrev pub is_only : List ℤ → ℤ → Bool
is_only [] value = false
is_only (first ∷ []) value = int_eq first value
is_only (first ∷ second ∷ rest) value = false

abbrev pub value_agrees : Option (List ℤ) → Option ℤ → Bool
value_agrees None None = true
value_agrees None (Some value) = false
value_agrees (Some values) None = false
value_agrees (Some values) (Some value) = is_only values value

-- Only an automatic view or scalar has one value to start with; the view has to have it, and a scalar without one is 0.
abbrev pub value_stands : Object → Option (Option ℤ) → Bool
value_stands object None = is_static object.storage || (not object.view && (not (object.rows == 0) || value_agrees object.initial (Some (pos 0))))
value_stands object (Some value) =
    not (is_static object.storage || is_parameter object.storage) && (object.view || (object.rows == 0 && value_agrees object.initial value))

abbrev pub begins_with : Option Object → Option (Option ℤ) → Bool
begins_with None value = false
begins_with (Some object) value = not (is_parameter object.storage) && value_stands object value

abbrev pub begins_well : Typed → Thing → Bool
begins_well source (Begins object value) = begins_with (slice_get source.objects object) value
begins_well source thing = true

-- ---- exposed scalars

-- it is a place of this object, of which a view is given
abbrev pub is_given : ℕ → Thing → Bool
is_given number (Place object Bare (Given taken)) = number == object
is_given number thing = false

abbrev pub same_truth : Bool → Bool → Bool
same_truth true other = other
same_truth false other = not other

-- the object of this number is exposed where it is a scalar of which a view is given
abbrev pub is_exposed_rightly : List Thing → ℕ → Object → Bool
is_exposed_rightly things number object = same_truth object.exposed (is_scalar object && list_any (is_given number) things)

abbrev pub exposed_from : List Thing → ℕ → List Object → Bool
exposed_from things number [] = true
exposed_from things number (object ∷ objects) = is_exposed_rightly things number object && exposed_from things (number + 1) objects

-- ---- where objects are declared

abbrev pub is_number : ℕ → Option ℕ → Bool
is_number number None = false
is_number number (Some other) = number == other

-- the numbers of the objects of a function, from the object with this number on
abbrev pub own_from : ℕ → ℕ → List Object → List ℕ
own_from function number [] = []
own_from function number (object ∷ objects) =
    if is_number function object.function then number ∷ own_from function (number + 1) objects else own_from function (number + 1) objects

-- this number, the next one, and so on
abbrev pub follow_from : ℕ → List ℕ → Bool
follow_from number [] = true
follow_from number (next ∷ rest) = next == number && follow_from (number + 1) rest

-- each number is one more than the one before it
abbrev pub follow_one_another : List ℕ → Bool
follow_one_another [] = true
follow_one_another (first ∷ rest) = follow_from (first + 1) rest

abbrev pub begun : Thing → List ℕ
begun (Begins object value) = object ∷ []
begun thing = []

-- the objects of blocks, in their order
abbrev pub begun_in : List Thing → List ℕ
begun_in things = flat_map begun things

abbrev pub is_parameter_object : Option Object → Bool
is_parameter_object None = false
is_parameter_object (Some object) = is_parameter object.storage

-- the parameters of a function are objects that are parameters
abbrev pub has_parameters : Typed → TypedFunction → Bool
has_parameters source function = list_all (λ number. is_parameter_object (slice_get source.objects number)) function.params
