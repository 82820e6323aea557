-- What holds of each thing that stands in a lawful source.
use Rattle.std.specs.Prelude.{◌≡◌, ℕ, ◌==◌, nat_lt, Bool, true, false, not, ◌&&◌, ◌||◌, List, [], ◌∷◌, flat_map, length, slice_get, Option, Some, None, is_some, is_none, codes}
use Rattle.std.specs.Str.{bytes_eq}
use Rattle.sat_base.specs.declared.name.At.{At}
use Rattle.sat_base.specs.declared.width.Width.{Width}
use Rattle.sat_base.specs.declared.width.Width.TheVariants.{W16, W32}
use Rattle.operator_meaning.specs.declared.object.Object.{Object}
use Rattle.operator_meaning.specs.declared.object.Site.{Site}
use Rattle.operator_meaning.specs.declared.site.SiteKind.{SiteKind}
use Rattle.c_typed.specs.declared.call.Callee.{Callee}
use Rattle.c_typed.specs.declared.call.Callee.TheVariants.{Function}
use Rattle.c_typed.specs.declared.typed.Typed.{Typed}
use Rattle.c_typed.specs.declared.typed.TypedFunction.{TypedFunction}
use Rattle.predefined_calls.specs.Calls.{gives_of, takes_of}
use Rattle.lawful_sources.specs.Things.{Marks, Bare, Once, Twice, Star, Taken, Number, View, Use, Read, Written, Given, Thing, Place, Call, Argument, Mark, Conversion, Begins, Leave, Return}
use Rattle.lawful_sources.specs.Objects.{is_scalar, is_table, is_line, is_complete, same_truth}

abbrev pub if_object : Option Object → (Object → Bool) → Bool
if_object None holds = false
if_object (Some object) holds = holds object

-- ---- numbers

-- the number of an object is one of its own
abbrev pub object_exists : Typed → Thing → Bool
object_exists source (Place object marks aim) = nat_lt object (length source.objects)
object_exists source (Begins object value) = nat_lt object (length source.objects)
object_exists source thing = true

abbrev pub callee_exists : Typed → Callee → Bool
callee_exists source (Function number) = nat_lt number (length source.functions)
callee_exists source callee = true

-- and so is the number of a function
abbrev pub function_exists : Typed → Thing → Bool
function_exists source (Call callee arguments is_needed) = callee_exists source callee
function_exists source thing = true

-- ---- places

-- these marks reach one number
abbrev pub reaches_number : Object → Marks → Bool
reaches_number object Bare = is_scalar object
reaches_number object Once = is_line object
reaches_number object Twice = is_table object
reaches_number object Star = is_line object

-- These marks reach what a view is given of: a scalar, an array of one dimension or a view by its name; their elements;
-- and of an array of two dimensions a row or an element. No `&` stands before `*`.
abbrev pub reaches_view : Object → Marks → Bool
reaches_view object Bare = not (is_table object)
reaches_view object Once = is_line object || is_table object
reaches_view object Twice = is_table object
reaches_view object Star = false

abbrev pub reaches : Object → Marks → Use → Bool
reaches object marks Read = reaches_number object marks
reaches object marks Written = reaches_number object marks
reaches object marks (Given taken) = reaches_view object marks

abbrev pub place_fits : Typed → Thing → Bool
place_fits source (Place object marks aim) = if_object (slice_get source.objects object) (λ o. reaches o marks aim)
place_fits source thing = true

-- it is no way to write to what is const
abbrev pub keeps_const : Object → Use → Bool
keeps_const object Read = true
keeps_const object Written = not object.is_const
keeps_const object (Given None) = true
keeps_const object (Given (Some (Number width))) = true
keeps_const object (Given (Some (View width is_const))) = not object.is_const || is_const

abbrev pub const_is_kept : Typed → Thing → Bool
const_is_kept source (Place object marks aim) = if_object (slice_get source.objects object) (λ o. keeps_const o aim)
const_is_kept source thing = true

abbrev pub same_width : Width → Width → Bool
same_width W16 W16 = true
same_width W32 W32 = true
same_width one other = false

-- a view is given to one of elements of the same width
abbrev pub has_width : Object → Use → Bool
has_width object (Given (Some (View width is_const))) = same_width object.width width
has_width object aim = true

abbrev pub width_agrees : Typed → Thing → Bool
width_agrees source (Place object marks aim) = if_object (slice_get source.objects object) (λ o. has_width o aim)
width_agrees source thing = true

-- ---- calls

abbrev pub parameter_count : Option TypedFunction → ℕ
parameter_count None = 0
parameter_count (Some function) = length function.params

abbrev pub takes_count : Typed → Callee → ℕ
takes_count source (Function number) = parameter_count (slice_get source.functions number)
takes_count source callee = length (takes_of callee)

-- a call has as many arguments as there are parameters
abbrev pub arguments_are_counted : Typed → Thing → Bool
arguments_are_counted source (Call callee arguments is_needed) = arguments == takes_count source callee
arguments_are_counted source thing = true

abbrev pub is_taken : Bool → Option Taken → Bool
is_taken is_view None = false
is_taken is_view (Some (Number width)) = not is_view
is_taken is_view (Some (View width is_const)) = is_view

-- a view is given where one is taken, and a number where that is
abbrev pub argument_fits : Thing → Bool
argument_fits (Argument is_view taken) = is_taken is_view taken
argument_fits thing = true

abbrev pub gives_number : Option TypedFunction → Bool
gives_number None = false
gives_number (Some function) = is_some function.gives

abbrev pub gives_value : Typed → Callee → Bool
gives_value source (Function number) = gives_number (slice_get source.functions number)
gives_value source callee = is_some (gives_of callee)

-- a call whose value is needed gives one
abbrev pub value_is_given : Typed → Thing → Bool
value_is_given source (Call callee arguments is_needed) = not is_needed || gives_value source callee
value_is_given source thing = true

abbrev pub is_defined : Typed → Callee → Bool
is_defined source (Function number) = is_complete (slice_get source.functions number)
is_defined source callee = true

-- what is called has a definition
abbrev pub callee_is_defined : Typed → Thing → Bool
callee_is_defined source (Call callee arguments is_needed) = is_defined source callee
callee_is_defined source thing = true

abbrev pub is_main : TypedFunction → Bool
is_main function = bytes_eq function.name (codes "main")

abbrev pub is_called_main : Option TypedFunction → Bool
is_called_main None = false
is_called_main (Some function) = is_main function

abbrev pub is_no_main : Typed → Callee → Bool
is_no_main source (Function number) = not (is_called_main (slice_get source.functions number))
is_no_main source callee = true

abbrev pub main_is_not_called : Typed → Thing → Bool
main_is_not_called source (Call callee arguments is_needed) = is_no_main source callee
main_is_not_called source thing = true

-- ---- sites

abbrev pub is_of : At → Option Site → Bool
is_of at None = false
is_of at (Some site) = (site.tok == at.tok) && ((site.pos.line == at.pos.line) && (site.pos.col == at.pos.col))

abbrev pub has_site : Typed → At → Option ℕ → Option SiteKind → Bool
has_site source at None kind = is_none kind
has_site source at (Some number) None = false
has_site source at (Some number) (Some kind) = is_of at (slice_get source.sites number)

-- a mark has a site exactly where it is one, and that is the site of its own token
abbrev pub mark_is_numbered : Typed → Thing → Bool
mark_is_numbered source (Mark at site kind) = has_site source at site kind
mark_is_numbered source thing = true

-- the kind that the site list gives is that of the mark
abbrev pub HasKind : Option Site → Option SiteKind → Type 0
HasKind None kind = ⊥
HasKind (Some site) None = ⊥
HasKind (Some site) (Some kind) = site.kind ≡ kind

abbrev pub IsOfKind : Typed → Thing → Type 0
IsOfKind source (Mark at None kind) = Unit {0}
IsOfKind source (Mark at (Some number) kind) = HasKind (slice_get source.sites number) kind
IsOfKind source thing = Unit {0}

-- the token of a mark that is a site
abbrev pub standing_site : Thing → List At
standing_site (Mark at site (Some kind)) = at ∷ []
standing_site thing = []

-- the tokens at which sites stand
abbrev pub sites_standing : List Thing → List At
sites_standing things = flat_map standing_site things

-- ---- conversions and statements

abbrev pub same_conversion : Option Width → Option Width → Bool
same_conversion None None = true
same_conversion (Some one) (Some other) = same_width one other
same_conversion one other = false

-- an implied conversion stands exactly where it has to
abbrev pub conversion_stands : Thing → Bool
conversion_stands (Conversion is due) = same_conversion is due
conversion_stands thing = true

abbrev pub is_in_loop : Thing → Bool
is_in_loop (Leave in_loop) = in_loop
is_in_loop thing = true

abbrev pub return_fits : Thing → Bool
return_fits (Return has_value gives) = same_truth has_value gives
return_fits thing = true
