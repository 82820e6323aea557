-- What the functions read that read functions and whole sources, with what reads blocks.
use Rattle.std.specs.Prelude.{ℕ, suc, Bool, true, false, not, ◌&&◌, if◌then◌else◌, List, [], ◌∷◌, length, Option, Some, None, Ok}
use Rattle.sat_base.specs.declared.name.At.{At}
use Rattle.sat_base.specs.declared.name.Named.{Named}
use Rattle.sat_base.specs.declared.width.Width.{Width}
use Rattle.c_tree.specs.declared.declaration.Dim.{Dim}
use Rattle.c_tree.specs.declared.function.Function.{Function}
use Rattle.c_tree.specs.declared.function.Param.{Param}
use Rattle.c_tree.specs.declared.program.Item.{Item}
use Rattle.c_tree.specs.declared.program.Item.TheVariants as item
use Rattle.c_tree.specs.declared.statement.Block.{Block}
use Rattle.right_reading.specs.declared.specifiers.Qualifiers.{Qualifiers}
use Rattle.right_reading.specs.declared.specifiers.Specifiers.{Specifiers}
use Rattle.c_grammar.specs.declared.symbol.Symbol.{Symbol}
use Rattle.c_grammar.specs.declared.symbol.Symbol.TheVariants as symbol
use Rattle.right_reading.specs.Lists.{many, listed_at}
use Rattle.right_reading.specs.ReadDeclarations.{word_at, passed, qualifiers_at, dimension_at, declarator_at, named_declarator_at, objects_from_at}
use Rattle.right_reading.specs.ReadExpressions.{type_at}
use Rattle.c_grammar.specs.Spots.{here}
use Rattle.right_reading.specs.Stream.{ahead, rest, Parser, ◌>>=◌, both, mapped, take_at, name_at}
use Rattle.c_grammar.specs.Symbols.{same_symbol}

-- ---- parameters

-- whether the token is ahead, which is gone over then
abbrev pub passes_at : Symbol → Parser Bool
passes_at s i = Ok (same_symbol (ahead i) s, passed s i)

abbrev pub maybe_name_at : Parser (Option Named)
maybe_name_at i = if same_symbol (ahead i) symbol.Name then mapped Some name_at i else Ok (None, i)

unfoldable pub param_dimension_at : ℕ → Bool → Parser (Option Dim)
param_dimension_at n pointer i = if not pointer && same_symbol (ahead i) symbol.OpenBracket then mapped Some (dimension_at n) i else Ok (None, i)

abbrev pub param_of : At → Bool → At × Width → Bool → Option Named → Option Dim → Param
param_of at is_const x pointer name dim = record { at = at; type_at = x.0; name = name; width = x.1; is_const = is_const; pointer = pointer; dim = dim }

unfoldable pub param_at : ℕ → Parser Param
param_at n i =
    type_at (passed symbol.Const i) >>= (λ x. maybe_name_at (passed symbol.Star x.1) >>= (λ y.
    mapped (param_of (here i) (same_symbol (ahead i) symbol.Const) x.0 (same_symbol (ahead x.1) symbol.Star) y.0) (param_dimension_at n (same_symbol (ahead x.1) symbol.Star)) y.1))

unfoldable pub listed_params_at : ℕ → Parser (List Param)
listed_params_at n = listed_at (param_at n)

unfoldable pub params_at : ℕ → Parser (List Param)
params_at n i =
    if same_symbol (ahead i) symbol.CloseParen then Ok ([], i)
    else if same_symbol (ahead i) symbol.Void then Ok ([], rest i)
    else listed_params_at n i

-- ---- functions

unfoldable pub body_at : Parser Block → Parser (Option Block)
body_at block i = if same_symbol (ahead i) symbol.Semicolon then Ok (None, rest i) else mapped Some block i

abbrev pub function_of : Qualifiers → Option Width → Named → List Param → Option Block → Function
function_of quals gives name params body = record { at = quals.at; name = name; gives = gives; params = params; body = body; is_static = quals.is_static }

-- the function of a name, from its parameters on
unfoldable pub function_at : Parser Block → ℕ → Qualifiers → Option Width → Named → Parser Function
function_at block n quals gives name =
    mapped (λ x. function_of quals gives name x.1.0 x.1.1.1) (both (word_at symbol.OpenParen) (both (params_at n) (both (word_at symbol.CloseParen) (body_at block))))

-- ---- items

-- the type of the flag, and whether it is `Flag`
abbrev pub flag_type_at : Parser Bool
flag_type_at i = if same_symbol (ahead i) symbol.Flag then Ok (true, rest i) else mapped (λ x. false) (word_at symbol.IntWord) i

unfoldable pub extern_flag_at : Parser Item
extern_flag_at = mapped (λ x. item.ExternFlag x.0) (both (take_at symbol.Extern) (both flag_type_at (both (word_at symbol.Overflow) (word_at symbol.Semicolon))))

abbrev pub with_width : Qualifiers → Width → Specifiers
with_width quals width = record { quals = quals; width = width }

-- a declaration of objects from this declarator on
abbrev pub objects_item_at : ℕ → Specifiers → Parser Item
objects_item_at n s i = declarator_at n s i >>= (λ d. mapped item.Objects (objects_from_at n s d.0) d.1)

-- what follows the qualifiers, the type and a name
unfoldable pub after_name_at : Parser Block → ℕ → Specifiers → Named → Parser Item
after_name_at block n s name i =
    if same_symbol (ahead i) symbol.OpenParen && not s.quals.is_const then mapped item.Function (function_at block n s.quals (Some s.width) name) i
    else named_declarator_at n s name i >>= (λ d. mapped item.Objects (objects_from_at n s d.0) d.1)

-- what follows the qualifiers and the type
unfoldable pub after_type_at : Parser Block → ℕ → Specifiers → Parser Item
after_type_at block n s i =
    if same_symbol (ahead i) symbol.Star then objects_item_at n s i
    else name_at i >>= (λ x. after_name_at block n s x.0 x.1)

-- what follows the qualifiers where a type does
unfoldable pub typed_item_at : Parser Block → ℕ → Qualifiers → Parser Item
typed_item_at block n quals i = type_at i >>= (λ x. after_type_at block n (with_width quals x.0.1) x.1)

-- what follows the qualifiers
unfoldable pub qualified_item_at : Parser Block → ℕ → Qualifiers → Parser Item
qualified_item_at block n quals i =
    if not quals.is_const && same_symbol (ahead i) symbol.Void then name_at (rest i) >>= (λ x. mapped item.Function (function_at block n quals None x.0) x.1)
    else typed_item_at block n quals i

unfoldable pub item_at : Parser Block → ℕ → Parser Item
item_at block n i =
    if same_symbol (ahead i) symbol.Extern then extern_flag_at i
    else qualified_item_at block n (qualifiers_at i).0 (qualifiers_at i).1

abbrev pub before_end : Symbol → Bool
before_end s = not (same_symbol s symbol.End)

-- one item or more, up to the end
unfoldable pub items_at : Parser Block → ℕ → Parser (List Item)
items_at block n i = item_at block n i >>= (λ x. many before_end (item_at block n) (suc (length x.1)) (x.0 ∷ []) x.1)
