-- What a run asks of the objects of a source. Where there is no object of a number, a scalar of 32 bits stands
-- for it, so that every definition is total.
use Rattle.std.specs.Prelude.{◌==◌, ℕ, ◌*◌, ℤ, pos, List, Option, Some, None, false, if◌then◌else◌, replicate, slice_get}
use Rattle.sat_base.specs.declared.width.Width.TheVariants.{W32}
use Rattle.operator_meaning.specs.declared.object.Object.{Object}
use Rattle.source_runs.specs.declared.shape.Shape.{Shape}

abbrev shape_where : ℕ → Option Object → Shape
shape_where number (Some object) = record { object = number; width = object.width; rows = object.rows; columns = object.columns; view = object.view }
shape_where number None = record { object = number; width = W32; rows = 0; columns = 0; view = false }

abbrev pub shape_of : List Object → ℕ → Shape
shape_of objects number = shape_where number (slice_get objects number)

-- the number of elements: a scalar has one, and an array of one dimension has its length in its rows
abbrev pub elements_of : Object → ℕ
elements_of object = if object.rows == 0 then 1 else (if object.columns == 0 then object.rows else object.rows * object.columns)

abbrev opening_where : Option (List ℤ) → ℕ → List ℤ
opening_where (Some values) elements = values
opening_where None elements = replicate elements (pos 0)

-- What an object starts with that has no value to evaluate: its initial values, and else 0.
abbrev pub opening_of : Object → List ℤ
opening_of object = opening_where object.initial (elements_of object)
