-- What places are, by what their names stand for and by their marks.
use Rattle.std.specs.Prelude.{Bool, true, false, not}
use Rattle.sat_base.specs.declared.name.At.{At}
use Rattle.sat_base.specs.declared.width.Width.{Width}
use Rattle.sat_base.specs.declared.width.Width.TheVariants.{W16, W32}
use Rattle.c_seen.specs.declared.seen.Kind.{Kind}
use Rattle.c_seen.specs.declared.seen.Kind.TheVariants as kinds
use Rattle.c_seen.specs.declared.seen.Marks.{Marks}
use Rattle.c_seen.specs.declared.seen.Marks.TheVariants as marks
use Rattle.c_seen.specs.declared.seen.Meaning.{Meaning}
use Rattle.c_seen.specs.declared.seen.Meaning.TheVariants as means
use Rattle.c_faults.specs.declared.shape.Shape.{Shape}
use Rattle.c_faults.specs.declared.shape.Shape.TheVariants as shapes

abbrev pub whole : Kind → Shape
whole kinds.Scalar = shapes.Number
whole kinds.Array = shapes.Array
whole kinds.Table = shapes.Table
whole kinds.View = shapes.View

-- with a mark, where an array of one dimension is then the first of these, and one of two the second
abbrev pub marked : Kind → At → Shape → Shape → Shape
marked kinds.Scalar mark one two = shapes.NoArray mark
marked kinds.Array mark one two = one
marked kinds.Table mark one two = two
marked kinds.View mark one two = one

abbrev pub shape_of_object : Kind → Marks → Shape
shape_of_object kind marks.None = whole kind
shape_of_object kind (marks.Once mark) = marked kind mark shapes.Number shapes.Row
shape_of_object kind (marks.Twice mark) = marked kind mark shapes.Misfit shapes.Number
shape_of_object kind (marks.Star mark) = marked kind mark shapes.Number shapes.Misfit

abbrev pub shape_of_function : Marks → Shape
shape_of_function marks.None = shapes.Function
shape_of_function (marks.Once mark) = shapes.NoArray mark
shape_of_function (marks.Twice mark) = shapes.NoArray mark
shape_of_function (marks.Star mark) = shapes.NoArray mark

abbrev pub shape_of : Meaning → Marks → Shape
shape_of (means.Object kind width is_const) marks = shape_of_object kind marks
shape_of (means.Function item) marks = shape_of_function marks
shape_of (means.Predefined callee) marks = shape_of_function marks

abbrev pub is_const : Meaning → Bool
is_const (means.Object kind width const) = const
is_const (means.Function item) = false
is_const (means.Predefined callee) = false

abbrev pub same_width : Width → Width → Bool
same_width W16 W16 = true
same_width W16 W32 = false
same_width W32 W16 = false
same_width W32 W32 = true

-- its elements have another width
abbrev pub is_of_other_width : Meaning → Width → Bool
is_of_other_width (means.Object kind width const) other = not (same_width width other)
is_of_other_width (means.Function item) other = false
is_of_other_width (means.Predefined callee) other = false

abbrev pub is_object : Meaning → Bool
is_object (means.Object kind width const) = true
is_object (means.Function item) = false
is_object (means.Predefined callee) = false

abbrev pub is_number : Shape → Bool
is_number shapes.Number = true
is_number _ = false

abbrev pub is_view : Shape → Bool
is_view shapes.View = true
is_view _ = false

-- an array, a row of one, or a function
abbrev pub is_whole : Shape → Bool
is_whole shapes.Array = true
is_whole shapes.Table = true
is_whole shapes.Row = true
is_whole shapes.Function = true
is_whole _ = false

abbrev pub is_function : Shape → Bool
is_function shapes.Function = true
is_function _ = false
