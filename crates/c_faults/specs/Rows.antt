-- The faults, each with the token at which it stands in one thing that is seen, if it does.
use Rattle.std.specs.Prelude.{Bool, true, false, not, ◌&&◌, ◌||◌, ◌==◌, if◌then◌else◌, Option, Some, None, is_none}
use Rattle.sat_base.specs.declared.name.At.{At}
use Rattle.c_seen.specs.declared.seen.Called.{Called}
use Rattle.c_seen.specs.declared.seen.Called.TheVariants as calls
use Rattle.c_seen.specs.declared.seen.Meaning.{Meaning}
use Rattle.c_seen.specs.declared.seen.Need.{Need}
use Rattle.c_seen.specs.declared.seen.Need.TheVariants as needs
use Rattle.c_seen.specs.declared.seen.Seen.{Seen}
use Rattle.c_seen.specs.declared.seen.Seen.TheVariants as seen
use Rattle.c_seen.specs.declared.seen.SeenCall.{SeenCall}
use Rattle.c_seen.specs.declared.seen.SeenPlace.{SeenPlace}
use Rattle.c_faults.specs.declared.shape.Shape.{Shape}
use Rattle.c_faults.specs.declared.shape.Shape.TheVariants as shapes
use Rattle.c_faults.specs.Shapes.{shape_of, is_const, is_of_other_width, is_object, is_number, is_view, is_whole, is_function}

abbrev pub at_if : Bool → At → Option At
at_if applies at = if applies then Some at else None

abbrev pub if_known : Option Meaning → (Meaning → Option At) → Option At
if_known None row = None
if_known (Some meaning) row = row meaning

-- ---- what is needed

abbrev pub needs_number : Need → Bool
needs_number needs.Number = true
needs_number _ = false

abbrev pub is_target : Need → Bool
is_target needs.Target = true
is_target _ = false

abbrev pub needs_view : Need → Bool
needs_view (needs.View view first) = true
needs_view _ = false

-- the first token of the argument that has to be a view
abbrev pub first_of_view : Need → Option At
first_of_view (needs.View view first) = Some first
first_of_view _ = None

abbrev pub first_if : Bool → Need → Option At
first_if applies need = if applies then first_of_view need else None

-- ---- places

abbrev pub lacks_number : SeenPlace → Shape → Bool
lacks_number place shape = (needs_number place.need && (place.ampersand || (is_whole shape || is_view shape))) || (is_target place.need && is_whole shape)

abbrev pub mark_of_no_array : Shape → Option At
mark_of_no_array (shapes.NoArray mark) = Some mark
mark_of_no_array _ = None

-- it is a way to write, where it is given to a view
abbrev pub gives_away : Shape → Bool → Bool
gives_away shapes.Number ampersand = ampersand
gives_away shapes.Array ampersand = true
gives_away shapes.Table ampersand = true
gives_away shapes.Row ampersand = true
gives_away shapes.View ampersand = true
gives_away shapes.Function ampersand = false
gives_away (shapes.NoArray mark) ampersand = false
gives_away shapes.Misfit ampersand = false

abbrev pub may_write : Need → Bool
may_write (needs.View view first) = not view.is_const
may_write _ = false

abbrev pub writes_const : SeenPlace → Meaning → Shape → Bool
writes_const place meaning shape =
    is_const meaning && ((is_target place.need && not (is_view shape)) || (may_write place.need && gives_away shape place.ampersand))

-- it is a view, where it is given to one
abbrev pub is_given : Shape → Bool → Bool
is_given shapes.Number ampersand = ampersand
is_given shapes.Array ampersand = not ampersand
is_given shapes.Table ampersand = false
is_given shapes.Row ampersand = not ampersand
is_given shapes.View ampersand = not ampersand
is_given shapes.Function ampersand = false
is_given (shapes.NoArray mark) ampersand = false
is_given shapes.Misfit ampersand = false

abbrev pub other_width_at : Meaning → Need → Option At
other_width_at meaning (needs.View view first) = at_if (is_of_other_width meaning view.width) first
other_width_at meaning _ = None

abbrev pub has_other_width : SeenPlace → Meaning → Shape → Option At
has_other_width place meaning shape = if is_given shape place.ampersand then other_width_at meaning place.need else None

abbrev pub has_wrong_shape : SeenPlace → Shape → Bool
has_wrong_shape place shapes.Number = false
has_wrong_shape place shapes.Array = place.ampersand
has_wrong_shape place shapes.Table = place.ampersand || needs_view place.need
has_wrong_shape place shapes.Row = place.ampersand
has_wrong_shape place shapes.View = place.ampersand
has_wrong_shape place shapes.Function = false
has_wrong_shape place (shapes.NoArray mark) = false
has_wrong_shape place shapes.Misfit = true

-- it can be no view: a number, a function, or `&` before a function
abbrev pub is_no_view : SeenPlace → Meaning → Shape → Bool
is_no_view place meaning shape = if place.ampersand then not (is_object meaning) else (is_number shape || is_function shape)

-- ---- the rows

-- a name that is not in scope
abbrev pub is_unknown : Called → Bool
is_unknown calls.Unknown = true
is_unknown calls.NoFunction = false
is_unknown (calls.Function gives parameters is_defined is_main) = false

abbrev pub unknown_name : Seen → Option At
unknown_name (seen.Place place) = at_if (is_none place.meaning) place.at
unknown_name (seen.Call call) = at_if (is_unknown call.called) call.at
unknown_name _ = None

-- a name declared twice in one scope, or the name of a predefined call; a parameter of a definition without a name
abbrev pub duplicate_name : Seen → Option At
duplicate_name (seen.Name at is_taken) = at_if is_taken at
duplicate_name (seen.Parameter param) = at_if (param.is_defined && not param.has_name) param.type_at
duplicate_name _ = None

abbrev pub has_other_count : SeenCall → Called → Bool
has_other_count call calls.Unknown = false
has_other_count call calls.NoFunction = false
has_other_count call (calls.Function gives parameters is_defined is_main) = not (call.arguments == parameters)

-- another number of arguments than of parameters
abbrev pub argument_count : Seen → Option At
argument_count (seen.Call call) = at_if (has_other_count call call.called) call.at
argument_count _ = None

-- an array, a view or a function where a number is needed, or an array, a row or a function as a target
abbrev pub number_needed : Seen → Option At
number_needed (seen.Place place) = if_known place.meaning (λ m. at_if (lacks_number place (shape_of m place.marks)) place.at)
number_needed _ = None

-- an index or `*` on a scalar or a function, at the mark
abbrev pub not_an_array : Seen → Option At
not_an_array (seen.Place place) = if_known place.meaning (λ m. mark_of_no_array (shape_of m place.marks))
not_an_array _ = None

abbrev pub is_no_function : Called → Bool
is_no_function calls.Unknown = false
is_no_function calls.NoFunction = true
is_no_function (calls.Function gives parameters is_defined is_main) = false

-- a call of a name that is no function
abbrev pub not_a_function : Seen → Option At
not_a_function (seen.Call call) = at_if (is_no_function call.called) call.at
not_a_function _ = None

-- a write to what is const, or a way to write to it that is given away
abbrev pub const_written : Seen → Option At
const_written (seen.Place place) = if_known place.meaning (λ m. at_if (writes_const place m (shape_of m place.marks)) place.at)
const_written _ = None

-- an initialiser that does not fit its object
abbrev pub bad_initialiser : Seen → Option At
bad_initialiser (seen.Object object) = at_if object.has_bad_initialiser object.at
bad_initialiser _ = None

abbrev pub is_void : Called → Bool
is_void calls.Unknown = false
is_void calls.NoFunction = false
is_void (calls.Function gives parameters is_defined is_main) = not gives

-- a void call where a number is needed
abbrev pub void_value : Seen → Option At
void_value (seen.Call call) = at_if (needs_number call.need && is_void call.called) call.at
void_value _ = None

-- a function that gives a number and whose body does not surely return
abbrev pub missing_return : Seen → Option At
missing_return (seen.Function function) = at_if function.lacks_return function.at
missing_return _ = None

-- a value in a void function, or none in another
abbrev pub wrong_return : Seen → Option At
wrong_return (seen.Return at has_value gives) = at_if (if has_value then not gives else gives) at
wrong_return _ = None

abbrev pub outside_a_loop : Seen → Option At
outside_a_loop (seen.Leave at in_loop) = at_if (not in_loop) at
outside_a_loop _ = None

abbrev pub no_main : Seen → Option At
no_main (seen.End at has_main) = at_if (not has_main) at
no_main _ = None

-- a view whose elements have another width
abbrev pub element_width : Seen → Option At
element_width (seen.Place place) = if_known place.meaning (λ m. has_other_width place m (shape_of m place.marks))
element_width _ = None

-- too many indices, or too few where a view is needed or after `&`
abbrev pub wrong_shape : Seen → Option At
wrong_shape (seen.Place place) = if_known place.meaning (λ m. at_if (has_wrong_shape place (shape_of m place.marks)) place.at)
wrong_shape _ = None

-- a length that is no constant of at least 1, or is missing
abbrev pub bad_length : Seen → Option At
bad_length (seen.Object object) = at_if object.has_bad_length object.at
bad_length (seen.Parameter param) = param.bad_length
bad_length _ = None

abbrev pub is_called_function : Called → Bool
is_called_function calls.Unknown = false
is_called_function calls.NoFunction = false
is_called_function (calls.Function gives parameters is_defined is_main) = true

-- a number, a call or a function where a view is needed
abbrev pub view_needed : Seen → Option At
view_needed (seen.Place place) = if_known place.meaning (λ m. first_if (is_no_view place m (shape_of m place.marks)) place.need)
view_needed (seen.Call call) = first_if (is_called_function call.called) call.need
view_needed (seen.NoView at) = Some at
view_needed _ = None

-- a declaration that differs from an earlier one
abbrev pub declarations_differ : Seen → Option At
declarations_differ (seen.Function function) = at_if function.differs function.at
declarations_differ _ = None

abbrev pub is_undefined : Called → Bool
is_undefined calls.Unknown = false
is_undefined calls.NoFunction = false
is_undefined (calls.Function gives parameters is_defined is_main) = not is_defined

-- a call of a function without a definition
abbrev pub no_definition : Seen → Option At
no_definition (seen.Call call) = at_if (is_undefined call.called) call.at
no_definition _ = None

-- a second definition
abbrev pub defined_twice : Seen → Option At
defined_twice (seen.Function function) = at_if function.is_second function.at
defined_twice _ = None

abbrev pub is_call_of_main : Called → Bool
is_call_of_main calls.Unknown = false
is_call_of_main calls.NoFunction = false
is_call_of_main (calls.Function gives parameters is_defined is_main) = is_main

abbrev pub main_called : Seen → Option At
main_called (seen.Call call) = at_if (is_call_of_main call.called) call.at
main_called _ = None

-- a pointer at file scope, or static, or without an initialiser, or assigned, or stepped
abbrev pub pointer_use : Seen → Option At
pointer_use (seen.Place place) = if_known place.meaning (λ m. at_if (is_target place.need && is_view (shape_of m place.marks)) place.at)
pointer_use (seen.Object object) = at_if object.misuses_pointer object.at
pointer_use _ = None
