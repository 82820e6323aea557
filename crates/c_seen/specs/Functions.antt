-- Declarations of functions, each beside those of its name before it.
use Rattle.std.specs.Prelude.{ℕ, ◌+◌, Bool, true, false, not, ◌&&◌, ◌||◌, ◌==◌, List, [], ◌∷◌, length, slice_get, Option, Some, None, is_some}
use Rattle.sat_base.specs.declared.width.Width.{Width}
use Rattle.sat_base.specs.declared.width.Width.TheVariants.{W16, W32}
use Rattle.c_scopes.specs.declared.scopes.Declared.{Declared}
use Rattle.c_scopes.specs.Scopes.{Known, meaning_of}
use Rattle.c_tree.specs.declared.function.Function.{Function}
use Rattle.c_tree.specs.declared.function.Param.{Param}
use Rattle.c_tree.specs.declared.program.Item.{Item}
use Rattle.c_tree.specs.declared.program.Item.TheVariants as items
use Rattle.c_seen.specs.declared.functions.Declaration.{Declaration}

-- a pointer, or what has square brackets
abbrev pub is_view : Param → Bool
is_view param = param.pointer || is_some param.dim

abbrev pub same_width : Width → Width → Bool
same_width W16 W16 = true
same_width W16 W32 = false
same_width W32 W16 = false
same_width W32 W32 = true

abbrev pub same_gives : Option Width → Option Width → Bool
same_gives None None = true
same_gives None (Some other) = false
same_gives (Some one) None = false
same_gives (Some one) (Some other) = same_width one other

abbrev pub same_truth : Bool → Bool → Bool
same_truth true other = other
same_truth false other = not other

-- two parameters agree in kind, width and const
abbrev pub same_parameter : Param → Param → Bool
same_parameter one other = same_truth (is_view one) (is_view other) && (same_width one.width other.width && same_truth one.is_const other.is_const)

abbrev pub same_each : List Param → List Param → Bool
same_each [] others = true
same_each (one ∷ ones) [] = true
same_each (one ∷ ones) (other ∷ others) = same_parameter one other && same_each ones others

abbrev pub same_parameters : List Param → List Param → Bool
same_parameters ones others = (length ones == length others) && same_each ones others

-- two functions agree in what they give, and in the number, kinds, widths and const of their parameters
abbrev pub is_alike : Function → Function → Bool
is_alike one other = same_gives one.gives other.gives && same_parameters one.params other.params

abbrev pub function_in : Option Item → Option Function
function_in None = None
function_in (Some (items.Objects objects)) = None
function_in (Some (items.Function function)) = Some function
function_in (Some (items.ExternFlag at)) = None

-- the function that an item declares
abbrev pub function_at : List Item → ℕ → Option Function
function_at list item = function_in (slice_get list item)

abbrev pub defined_by : Option (Declared Declaration) → Bool
defined_by None = false
defined_by (Some newest) = newest.what.is_defined

abbrev pub is_defined : List (Known Declaration) → List ℕ → Bool
is_defined functions name = defined_by (meaning_of functions name)

abbrev pub is_unlike : Option Function → Function → Bool
is_unlike None function = false
is_unlike (Some one) function = not (is_alike one function)

abbrev pub differs_from : List Item → Option (Declared Declaration) → Function → Bool
differs_from list None function = false
differs_from list (Some newest) function = newest.what.differs || is_unlike (function_at list newest.what.item) function

-- it differs from one of these of the same name: from the newest, or as the newest does
abbrev pub differs : List Item → List (Known Declaration) → Function → Bool
differs list functions function = differs_from list (meaning_of functions function.name.name) function

-- the functions once the function that this item declares is among them
abbrev pub declaring_function : List Item → List (Known Declaration) → ℕ → Function → List (Known Declaration)
declaring_function list functions item function =
    (function.name.name, record { depth = 0; what = record { item = item; differs = differs list functions function; is_defined = is_some function.body || is_defined functions function.name.name } }) ∷ functions

-- all functions that the items declare, from the one with this number on
abbrev pub functions_from : List Item → List (Known Declaration) → ℕ → List Item → List (Known Declaration)
functions_from list functions item [] = functions
functions_from list functions item (items.Objects objects ∷ rest) = functions_from list functions (item + 1) rest
functions_from list functions item (items.Function function ∷ rest) = functions_from list (declaring_function list functions item function) (item + 1) rest
functions_from list functions item (items.ExternFlag at ∷ rest) = functions_from list functions (item + 1) rest

abbrev pub functions_of : List Item → List (Known Declaration)
functions_of list = functions_from list [] 0 list
