-- What objects start with (C90, 6.5.7).
use Rattle.std.specs.Prelude.{ℕ, ◌-◌, ℤ, pos, if◌then◌else◌, List, [], ◌∷◌, ◌++◌, length, map, flat_map, replicate, Option, Some, None, unwrap_or}
use Rattle.sat_base.specs.declared.width.Width.{Width}
use Rattle.sat_base.specs.declared.width.Width.TheVariants.{W16, W32}
use Rattle.sat_base.specs.Clip.{low16}
use Rattle.c_tree.specs.declared.call.Arg.{Arg, Value', Address}
use Rattle.c_tree.specs.declared.declaration.Decl.{Decl}
use Rattle.c_tree.specs.declared.declaration.Init.{Init}
use Rattle.c_tree.specs.declared.declaration.Init.TheVariants as init
use Rattle.c_tree.specs.declared.declaration.Row.{Row}
use Rattle.c_tree.specs.declared.expression.Expr.{Expr}
use Rattle.constant_expressions.specs.Folding.{folded, folded_kind}
use Rattle.declared_objects.specs.Lengths.{is_array, columns_of, elements_of}

-- a value that is converted to a width
abbrev pub in_width : Width → ℤ → ℤ
in_width W16 value = low16 value
in_width W32 value = value

abbrev pub constant_or : Width → Option ℤ → ℤ
constant_or width None = pos 0
constant_or width (Some value) = in_width width value

-- the value of a constant expression, converted to a width; 0 stands for what is none
abbrev pub constant : Width → Expr → ℤ
constant width e = constant_or width (folded e)

-- fewer values than elements leave the rest 0
abbrev pub filled : ℕ → List ℤ → List ℤ
filled count values = values ++ replicate (count - length values) (pos 0)

abbrev pub filled_row : Width → ℕ → Row → List ℤ
filled_row width columns row = filled columns (map (constant width) row.values)

-- a scalar has one element
abbrev pub element_count : Decl → ℕ
element_count decl = if is_array decl then unwrap_or (elements_of decl) 0 else 1

abbrev pub column_count : Decl → ℕ
column_count decl = unwrap_or (columns_of decl) 0

abbrev pub value_if : Width → Option ℤ → Option (List ℤ)
value_if width None = None
value_if width (Some value) = Some (in_width width value ∷ [])

-- the one value that is given, where it is a constant expression
abbrev pub given_value : Width → Arg → Option (List ℤ)
given_value width (Value' at brackets kind) = value_if width (folded_kind kind)
given_value width (Address at place) = None

-- A flat list fills the rows in their order, and each row of a list of rows is filled by itself. An object without an
-- initialiser is all 0.
abbrev pub values_by : Decl → Init → Option (List ℤ)
values_by decl init.Nothing = Some (filled (element_count decl) [])
values_by decl (init.One arg) = given_value decl.width arg
values_by decl (init.Flat values) = Some (filled (element_count decl) (map (constant decl.width) values))
values_by decl (init.Rows rows) = Some (filled (element_count decl) (flat_map (filled_row decl.width (column_count decl)) rows))

-- all values that an object starts with; none for a view, and where the one value is no constant expression
abbrev pub initial_values : Decl → Option (List ℤ)
initial_values decl = if decl.pointer then None else values_by decl decl.init
