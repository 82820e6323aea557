-- The initialisers of objects (C90, 6.5.7), and pointers among objects.
use Rattle.std.specs.Prelude.{ℕ, Bool, true, false, not, ◌&&◌, ◌||◌, nat_lt, List, length, Option, Some, None, is_some, is_none}
use Rattle.std.specs.List.{list_any}
use Rattle.c_tree.specs.declared.call.Arg.{Arg, Value', Address}
use Rattle.c_tree.specs.declared.declaration.Decl.{Decl}
use Rattle.c_tree.specs.declared.declaration.Init.{Init}
use Rattle.c_tree.specs.declared.declaration.Init.TheVariants.{Nothing, One, Flat, Rows}
use Rattle.c_tree.specs.declared.declaration.Row.{Row}
use Rattle.c_tree.specs.declared.expression.Expr.{Expr}
use Rattle.constant_expressions.specs.Folding.{folded, folded_kind}
use Rattle.declared_objects.specs.Lengths.{is_array, columns_of, rows_of, elements_of}

abbrev pub is_variable : Expr → Bool
is_variable e = is_none (folded e)

-- one of the values is no constant expression
abbrev pub some_variable : List Expr → Bool
some_variable values = list_any is_variable values

abbrev pub is_constant_argument : Arg → Bool
is_constant_argument (Value' at brackets kind) = is_some (folded_kind kind)
is_constant_argument (Address at place) = false

-- there are more than these, if it is known how many may be there
abbrev pub exceeds : ℕ → Option ℕ → Bool
exceeds count None = false
exceeds count (Some most) = nat_lt most count

-- a row has a value that is no constant, or more values than there are columns
abbrev pub is_bad_row : Option ℕ → Row → Bool
is_bad_row columns row = some_variable row.values || exceeds (length row.values) columns

abbrev pub bad_rows : Decl → List Row → Bool
bad_rows decl rows = not (is_array decl) || (is_none decl.cols || (exceeds (length rows) (rows_of decl) || list_any (is_bad_row (columns_of decl)) rows))

abbrev pub bad_values : Decl → List Expr → Bool
bad_values decl values = not (is_array decl) || (some_variable values || exceeds (length values) (elements_of decl))

-- one value for an array, or one that is no constant for an object that is static
abbrev pub bad_value : Decl → Bool → Arg → Bool
bad_value decl is_static arg = is_array decl || (is_static && not (is_constant_argument arg))

abbrev pub bad_init : Decl → Bool → Init → Bool
bad_init decl is_static Nothing = false
bad_init decl is_static (One arg) = bad_value decl is_static arg
bad_init decl is_static (Flat values) = bad_values decl values
bad_init decl is_static (Rows rows) = bad_rows decl rows

abbrev pub bad_initialiser : Decl → Bool → Bool
bad_initialiser decl is_static = bad_init decl is_static decl.init

abbrev pub is_missing : Init → Bool
is_missing Nothing = true
is_missing (One arg) = false
is_missing (Flat values) = false
is_missing (Rows rows) = false

-- a pointer that is static, or that has no initialiser
abbrev pub pointer_use : Decl → Bool → Bool
pointer_use decl is_static = decl.pointer && (is_static || is_missing decl.init)
