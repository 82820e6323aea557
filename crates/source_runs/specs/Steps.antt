-- Objects, views and indices.
use Rattle.std.specs.Prelude.{ℕ, ◌+◌, ◌*◌, ◌==◌, nat_lt, ℤ, pos, negsuc, ◌+ℤ◌, List, [], ◌∷◌, if◌then◌else◌, Option, Some, None, option_map, map, replicate, length, slice_get}
use Rattle.operator_meaning.specs.declared.object.Object.{Object}
use Rattle.operator_meaning.specs.declared.object.Storage.{Storage}
use Rattle.operator_meaning.specs.declared.object.Storage.TheVariants.{Static}
use Rattle.source_runs.specs.declared.location.Access.{Access}
use Rattle.source_runs.specs.declared.location.Access.TheVariants.{Element, Address}
use Rattle.source_runs.specs.declared.location.Given.{Given}
use Rattle.source_runs.specs.declared.location.Given.TheVariants.{Number, View}
use Rattle.source_runs.specs.declared.location.Location.{Location}
use Rattle.source_runs.specs.declared.shape.Shape.{Shape}
use Rattle.source_runs.specs.Shapes.{shape_of, opening_of}
use Rattle.source_runs.specs.State.{Kept, location, converted, numbers_of, view_of, with_numbers, with_view}

-- ---- indices

-- the index, where it lies from 0 up to, but not including, the number
abbrev pub inside : ℤ → ℕ → Option ℕ
inside (pos index) number = if nat_lt index number then Some index else None
inside (negsuc index) number = None

-- an address may also be that after the last element
abbrev pub edge : Access → ℕ
edge Element = 0
edge Address = 1

-- a view reaches what is inside its whole object
abbrev pub moved : Access → ℤ → Location → Kept → Option Location
moved access index from kept =
    option_map (location from.object) (inside (pos from.offset +ℤ index) (length (numbers_of from.object kept) + edge access))

-- an index into a named array of one dimension lies inside it; the one index into an array of two is a row
abbrev pub in_array : Access → Shape → ℤ → Option Location
in_array access shape index =
    if shape.columns == 0
    then option_map (location shape.object) (inside index (shape.rows + edge access))
    else option_map (λ row. location shape.object (row * shape.columns)) (inside index shape.rows)

abbrev pub place_of : Access → Shape → ℤ → Kept → Option Location
place_of access shape index kept = if shape.view then moved access index (view_of shape.object kept) kept else in_array access shape index

-- the second index of two, which lies inside the columns
abbrev pub in_row : Access → Shape → ℕ → ℤ → Option Location
in_row access shape row index =
    option_map (λ column. location shape.object (row * shape.columns + column)) (inside index (shape.columns + edge access))

-- a name by itself: a view begins where it begins, and any other object at its first element
abbrev pub named : Shape → Kept → Location
named shape kept = if shape.view then view_of shape.object kept else location shape.object 0

-- `*` before a name reaches the first element
abbrev pub pointed : Shape → Kept → Option Location
pointed shape kept = moved Element (pos 0) (named shape kept) kept

-- ---- how objects come to their values

-- an object has what was given: a number is converted to its width
abbrev pub given_to : Shape → Given → Kept → Kept
given_to shape (Number value) kept = with_numbers shape.object (converted shape.width value ∷ []) kept
given_to shape (View at) kept = with_view shape.object at kept

-- parameters have what the arguments give
abbrev pub given_to_all : List Object → List ℕ → List Given → Kept → Kept
given_to_all objects (param ∷ params) (given ∷ more) kept = given_to_all objects params more (given_to (shape_of objects param) given kept)
given_to_all objects params givens kept = kept

abbrev opened_as : Storage → ℕ → Object → Kept → Kept
opened_as Static number object kept = kept
opened_as storage number object kept = with_numbers number (opening_of object) kept

abbrev opened_where : Option Object → ℕ → Kept → Kept
opened_where None number kept = kept
opened_where (Some object) number kept = opened_as object.storage number object kept

-- an object that is not static starts anew each time its block is entered
abbrev pub opened : List Object → ℕ → Kept → Kept
opened objects number kept = opened_where (slice_get objects number) number kept

-- what a run keeps before its first step
abbrev pub opening_state : List Object → List ℤ → Kept
opening_state objects input =
    record { numbers = map opening_of objects; views = replicate (length objects) (location 0 0); overflow = pos 0; count = 0; left = input; output = [] }
