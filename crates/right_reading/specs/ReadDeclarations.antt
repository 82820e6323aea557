-- What the functions read that read declarations of objects.
use Rattle.std.specs.Prelude.{ℕ, zero, suc, true, false, if◌then◌else◌, List, [], ◌∷◌, ◌++◌, length, Option, Some, None, Ok}
use Rattle.sat_base.specs.declared.name.At.{At}
use Rattle.sat_base.specs.declared.name.Named.{Named}
use Rattle.c_tree.specs.declared.call.Arg.TheVariants as arg
use Rattle.c_tree.specs.declared.declaration.Decl.{Decl}
use Rattle.c_tree.specs.declared.declaration.Dim.{Dim}
use Rattle.c_tree.specs.declared.declaration.Init.{Init}
use Rattle.c_tree.specs.declared.declaration.Init.TheVariants as init
use Rattle.c_tree.specs.declared.declaration.Objects.{Objects}
use Rattle.c_tree.specs.declared.declaration.Row.{Row}
use Rattle.c_tree.specs.declared.expression.Expr.{Expr}
use Rattle.right_reading.specs.declared.specifiers.Qualifiers.{Qualifiers}
use Rattle.right_reading.specs.declared.specifiers.Specifiers.{Specifiers}
use Rattle.c_grammar.specs.declared.symbol.Symbol.{Symbol}
use Rattle.c_grammar.specs.declared.symbol.Symbol.TheVariants as symbol
use Rattle.right_reading.specs.Lists.{more_listed}
use Rattle.right_reading.specs.ReadExpressions.{type_at, index_by, expression_at, argument_at}
use Rattle.c_grammar.specs.Spots.{Spot, here}
use Rattle.right_reading.specs.Stream.{ahead, rest, Parser, ◌>>=◌, both, mapped, take_at, name_at}
use Rattle.c_grammar.specs.Symbols.{same_symbol}

-- a quoted token of which nothing is kept
abbrev pub word_at : Symbol → Parser (Unit {0})
word_at s = mapped (λ at. tt) (take_at s)

-- what is left after a token that may be there
abbrev pub passed : Symbol → List Spot → List Spot
passed s i = if same_symbol (ahead i) s then rest i else i

-- ---- lists with commas

-- what follows the first, each after a comma, where one more comma may stand before the `}` that follows; the number
-- is how many there may be
unfoldable pub more_braced : {A : Type 0} → ℕ → Parser A → List A → Parser (List A)
more_braced zero p xs i = Ok (xs, i)
more_braced (suc fuel) p xs i =
    if same_symbol (ahead i) symbol.Comma then
    (if same_symbol (ahead (rest i)) symbol.CloseBrace then Ok (xs, rest i)
    else p (rest i) >>= (λ x. more_braced fuel p (xs ++ x.0 ∷ []) x.1))
    else Ok (xs, i)

-- one or more, and the `}` that follows
unfoldable pub braced_at : {A : Type 0} → Parser A → Parser (List A)
braced_at p i = p i >>= (λ x. more_braced (length x.1) p (x.0 ∷ []) x.1) >>= (λ x. word_at symbol.CloseBrace x.1 >>= (λ y. Ok (x.0, y.1)))

-- ---- qualifiers and the type

unfoldable pub qualifiers_at : List Spot → Qualifiers × List Spot
qualifiers_at i =
    if same_symbol (ahead i) symbol.Static then
    (record { at = here i; is_static = true; is_const = same_symbol (ahead (rest i)) symbol.Const }, passed symbol.Const (rest i))
    else if same_symbol (ahead i) symbol.Const then
    (record { at = here i; is_static = same_symbol (ahead (rest i)) symbol.Static; is_const = true }, passed symbol.Static (rest i))
    else (record { at = here i; is_static = false; is_const = false }, i)

unfoldable pub specifiers_at : Parser Specifiers
specifiers_at i = type_at (qualifiers_at i).1 >>= (λ x. Ok (record { quals = (qualifiers_at i).0; width = x.0.1 }, x.1))

-- ---- dimensions, with what reads their lengths

unfoldable pub length_at : ℕ → Parser (Option Expr)
length_at n i = if same_symbol (ahead i) symbol.CloseBracket then Ok (None, i) else mapped Some (expression_at n) i

abbrev pub dimension_of : At → Option Expr → Dim
dimension_of at length = record { at = at; length = length }

unfoldable pub dimension_at : ℕ → Parser Dim
dimension_at n = mapped (λ x. dimension_of x.0 x.1.0) (both (take_at symbol.OpenBracket) (both (length_at n) (word_at symbol.CloseBracket)))

-- the second pair of square brackets, which has a length
unfoldable pub columns_at : ℕ → Parser (Option (At × Expr))
columns_at n i = if same_symbol (ahead i) symbol.OpenBracket then mapped Some (index_by (expression_at n)) i else Ok (None, i)

abbrev pub with_columns : Dim → Option (At × Expr) → Option Dim × Option Dim
with_columns rows None = (Some rows, None)
with_columns rows (Some x) = (Some rows, Some (dimension_of x.0 (Some x.1)))

unfoldable pub dimensions_at : ℕ → Parser (Option Dim × Option Dim)
dimensions_at n i =
    if same_symbol (ahead i) symbol.OpenBracket then mapped (λ x. with_columns x.0 x.1) (both (dimension_at n) (columns_at n)) i
    else Ok ((None, None), i)

-- ---- initialisers

unfoldable pub values_at : ℕ → Parser (List Expr)
values_at n = braced_at (expression_at n)

abbrev pub row_of : List Expr → Row
row_of values = record { values = values }

unfoldable pub row_at : ℕ → Parser Row
row_at n = mapped (λ x. row_of x.1) (both (word_at symbol.OpenBrace) (values_at n))

unfoldable pub rows_at : ℕ → Parser (List Row)
rows_at n = braced_at (row_at n)

-- what follows the `=` of a scalar or an array
unfoldable pub initialiser_at : ℕ → Parser Init
initialiser_at n i =
    if same_symbol (ahead i) symbol.OpenBrace then
    (if same_symbol (ahead (rest i)) symbol.OpenBrace then mapped init.Rows (rows_at n) (rest i) else mapped init.Flat (values_at n) (rest i))
    else mapped (λ e. init.One (arg.Value e)) (expression_at n) i

unfoldable pub start_at : ℕ → Parser Init
start_at n i = if same_symbol (ahead i) symbol.Equal then initialiser_at n (rest i) else Ok (init.Nothing, i)

unfoldable pub view_start_at : ℕ → Parser Init
view_start_at n i = if same_symbol (ahead i) symbol.Equal then mapped init.One (argument_at n) (rest i) else Ok (init.Nothing, i)

-- ---- declarators

abbrev pub view_of : Specifiers → At → Named → Init → Decl
view_of s at name start = record { at = at; name = name; width = s.width; pointer = true; rows = None; cols = None; init = start; is_static = s.quals.is_static; is_const = s.quals.is_const }

abbrev pub object_of : Specifiers → Named → Option Dim × Option Dim → Init → Decl
object_of s name d start = record { at = name.at; name = name; width = s.width; pointer = false; rows = d.0; cols = d.1; init = start; is_static = s.quals.is_static; is_const = s.quals.is_const }

unfoldable pub view_at : ℕ → Specifiers → Parser Decl
view_at n s = mapped (λ x. view_of s x.0 x.1.0 x.1.1) (both (take_at symbol.Star) (both name_at (view_start_at n)))

-- the scalar or array that begins with a name, which is read already
unfoldable pub named_declarator_at : ℕ → Specifiers → Named → Parser Decl
named_declarator_at n s name = mapped (λ x. object_of s name x.0 x.1) (both (dimensions_at n) (start_at n))

unfoldable pub declarator_at : ℕ → Specifiers → Parser Decl
declarator_at n s i =
    if same_symbol (ahead i) symbol.Star then view_at n s i
    else name_at i >>= (λ x. named_declarator_at n s x.0 x.1)

-- what follows the first declarator, each after a comma
unfoldable pub declarators_at : ℕ → Specifiers → Decl → Parser (List Decl)
declarators_at n s first i = more_listed (declarator_at n s) (first ∷ []) i

abbrev pub objects_of : At → List Decl → Objects
objects_of at decls = record { at = at; decls = decls }

-- the declaration that begins so, up to its `;`
unfoldable pub objects_from_at : ℕ → Specifiers → Decl → Parser Objects
objects_from_at n s first = mapped (λ x. objects_of s.quals.at x.0) (both (declarators_at n s first) (word_at symbol.Semicolon))

unfoldable pub objects_at : ℕ → Parser Objects
objects_at n i = specifiers_at i >>= (λ s. declarator_at n s.0 s.1 >>= (λ d. objects_from_at n s.0 d.0 d.1))
