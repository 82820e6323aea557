-- The lengths of arrays (C90, 6.5.4.2 and 6.5.7).
use Rattle.std.specs.Prelude.{ℕ, ◌*◌, Bool, true, false, not, ◌&&◌, ◌||◌, if◌then◌else◌, ℤ, pos, int_lt, unsigned_abs, length, Option, Some, None, is_some, is_none, option_map}
use Rattle.std.specs.Int.{div_ceil}
use Rattle.c_tree.specs.declared.declaration.Decl.{Decl}
use Rattle.c_tree.specs.declared.declaration.Dim.{Dim}
use Rattle.c_tree.specs.declared.declaration.Init.{Init}
use Rattle.c_tree.specs.declared.declaration.Init.TheVariants.{Nothing, One, Flat, Rows}
use Rattle.c_tree.specs.declared.expression.Expr.{Expr}
use Rattle.constant_expressions.specs.Folding.{folded}

-- the number, where it is at least 1
abbrev pub at_least_one : Option ℤ → Option ℕ
at_least_one None = None
at_least_one (Some value) = if int_lt (pos 0) value then Some (unsigned_abs value) else None

-- the length that is written, where it is a constant of at least 1
abbrev pub length_written : Option Expr → Option ℕ
length_written None = None
length_written (Some e) = at_least_one (folded e)

abbrev pub length_in : Dim → Option ℕ
length_in dim = length_written dim.length

-- a length is written that is no constant of at least 1
abbrev pub is_bad : Dim → Bool
is_bad dim = is_some dim.length && is_none (length_in dim)

abbrev pub is_bad_if_any : Option Dim → Bool
is_bad_if_any None = false
is_bad_if_any (Some dim) = is_bad dim

-- what is declared is an array, and neither a view nor a scalar
abbrev pub is_array : Decl → Bool
is_array decl = not decl.pointer && is_some decl.rows

-- the length in the second pair of brackets
abbrev pub columns_in : Option Dim → Option ℕ
columns_in None = None
columns_in (Some dim) = length_in dim

abbrev pub columns_of : Decl → Option ℕ
columns_of decl = columns_in decl.cols

-- the number of rows that a list fills, where this is the second pair of brackets
abbrev pub rows_listed : Init → Option Dim → Option ℕ
rows_listed Nothing cols = None
rows_listed (One arg) cols = None
rows_listed (Flat values) None = Some (length values)
rows_listed (Flat values) (Some dim) = option_map (div_ceil (length values)) (length_in dim)
rows_listed (Rows rows) cols = Some (length rows)

-- the number of rows: the length in the first pair of brackets, or what the list fills where they are empty
abbrev pub rows_in : Option Dim → Init → Option Dim → Option ℕ
rows_in None init cols = None
rows_in (Some dim) init cols = if is_some dim.length then length_in dim else rows_listed init cols

abbrev pub rows_of : Decl → Option ℕ
rows_of decl = rows_in decl.rows decl.init decl.cols

-- the number of elements, by the rows and the second pair of brackets
abbrev pub elements_in : Option ℕ → Option Dim → Option ℕ
elements_in rows None = rows
elements_in None (Some dim) = None
elements_in (Some rows) (Some dim) = option_map (λ columns. rows * columns) (length_in dim)

abbrev pub elements_of : Decl → Option ℕ
elements_of decl = elements_in (rows_of decl) decl.cols

abbrev pub is_list : Init → Bool
is_list Nothing = false
is_list (One arg) = false
is_list (Flat values) = true
is_list (Rows rows) = true

abbrev pub is_empty : Option Dim → Bool
is_empty None = false
is_empty (Some dim) = is_none dim.length

-- a length is bad, or is missing where no list stands for it
abbrev pub bad_length : Decl → Bool
bad_length decl = is_array decl && (is_bad_if_any decl.rows || (is_bad_if_any decl.cols || (is_empty decl.rows && not (is_list decl.init))))
