-- What the functions read that read expressions, places and calls. The limit of a function is how many nodes may
-- stand below one another in what it reads.
use Rattle.std.specs.Prelude.{ℕ, zero, suc, ◌+◌, nat_le, ◌==◌, not, ◌&&◌, ◌||◌, if◌then◌else◌, List, [], length, Option, Some, None, Ok}
use Rattle.sat_base.specs.declared.name.At.{At}
use Rattle.sat_base.specs.declared.name.Named.{Named}
use Rattle.c_tree.specs.declared.call.Arg.{Arg}
use Rattle.c_tree.specs.declared.call.Arg.TheVariants as arg
use Rattle.c_tree.specs.declared.expression.BinaryMark.{BinaryMark}
use Rattle.c_tree.specs.declared.expression.Expr.{Expr}
use Rattle.c_tree.specs.declared.expression.ExprKind.{ExprKind}
use Rattle.c_tree.specs.declared.expression.ExprKind.TheVariants as kind
use Rattle.c_tree.specs.declared.expression.UnaryMark.{UnaryMark}
use Rattle.c_tree.specs.declared.place.Place.{Place}
use Rattle.c_tree.specs.declared.place.Place.TheVariants as place
use Rattle.c_tree.specs.Depth.{depth_of_expression}
use Rattle.c_tree.specs.Starts.{start_of_place}
use Rattle.sat_base.specs.declared.width.Width.{Width}
use Rattle.c_grammar.specs.declared.symbol.Symbol.{Symbol}
use Rattle.c_grammar.specs.declared.symbol.Symbol.TheVariants as symbol
use Rattle.c_grammar.specs.Marks.{rank_of}
use Rattle.right_reading.specs.Lists.{listed_at}
use Rattle.c_grammar.specs.Spots.{Spot, here}
use Rattle.right_reading.specs.Stream.{ahead, rest, Parser, ◌>>=◌, both, mapped, take_at, name_at, number_at, syntax_at, too_deep_at, refuse_at}
use Rattle.c_grammar.specs.Symbols.{same_symbol, binary_mark, unary_mark, width_of, begins_type, begins_expression}

-- `int` may follow `short` and `long`
abbrev pub after_type : Symbol → List Spot → List Spot
after_type s i = if (same_symbol s symbol.Short || same_symbol s symbol.Long) && same_symbol (ahead i) symbol.IntWord then rest i else i

abbrev pub type_by : Option Width → Parser (At × Width)
type_by None i = syntax_at i
type_by (Some width) i = Ok ((here i, width), after_type (ahead i) (rest i))

-- a type: its first token and its width
unfoldable pub type_at : Parser (At × Width)
type_at i = type_by (width_of (ahead i)) i

-- ---- with what reads expressions one node below

-- an index in its square brackets
unfoldable pub index_by : Parser Expr → Parser (At × Expr)
index_by expression = mapped (λ x. (x.0, x.1.0)) (both (take_at symbol.OpenBracket) (both expression (take_at symbol.CloseBracket)))

abbrev pub plain_place : Named → Place
plain_place name = place.Plain name

-- what follows a name with an index
unfoldable pub second_by : Parser Expr → Named → At × Expr → Parser Place
second_by expression name one i =
    if same_symbol (ahead i) symbol.OpenBracket then mapped (λ x. place.Index2 name one.0 one.1 x.0 x.1) (index_by expression) i
    else Ok (place.Index name one.0 one.1, i)

-- the place that begins with a name
unfoldable pub indices_by : Parser Expr → Named → Parser Place
indices_by expression name i =
    if same_symbol (ahead i) symbol.OpenBracket then index_by expression i >>= (λ x. second_by expression name x.0 x.1)
    else Ok (place.Plain name, i)

-- ---- the readers of expressions and places with one limit

pub record Readers : Type 0 where
  -- the place that begins with a name, which is read already
  pub indices : Named → Parser Place
  pub named : Parser Place
  pub indirection : Parser Place
  pub unary : Parser Expr
  -- the readers of chains, by the greatest rank of their marks
  pub chain : ℕ → Parser Expr
  pub expression : Parser Expr

abbrev pub no_expression : Parser Expr
no_expression i = refuse_at (begins_expression (ahead i)) i

-- where no node may stand
abbrev pub no_readers : Readers
no_readers = record {
  indices = λ name i. refuse_at (not (same_symbol (ahead i) symbol.End)) i;
  named = λ i. refuse_at (same_symbol (ahead i) symbol.Name) i;
  indirection = λ i. refuse_at (same_symbol (ahead i) symbol.Star) i;
  unary = no_expression;
  chain = λ n. no_expression;
  expression = no_expression;
}

-- ---- arguments

unfoldable pub argument_by : Readers → Parser Arg
argument_by r i =
    if same_symbol (ahead i) symbol.And then mapped (λ p. arg.Address (here i) p) r.named (rest i)
    else mapped arg.Value r.expression i

unfoldable pub listed_by : Readers → Parser (List Arg)
listed_by r = listed_at (argument_by r)

unfoldable pub arguments_by : Readers → Parser (List Arg)
arguments_by r i =
    take_at symbol.OpenParen i >>= (λ x. if same_symbol (ahead x.1) symbol.CloseParen then Ok ([], rest x.1)
    else mapped (λ y. y.0) (both (listed_by r) (take_at symbol.CloseParen)) x.1)

-- ---- operands

abbrev pub unmarked : At → ExprKind → Expr
unmarked at kind = record { at = at; brackets = 0; kind = kind }

-- what reads a place
abbrev pub reading : Place → Expr
reading p = unmarked (start_of_place p) (kind.Read p)

-- what begins with `(`
unfoldable pub bracketed_by : Readers → At → Parser Expr
bracketed_by below at i =
    if begins_type (ahead i) then mapped (λ x. unmarked at (kind.Cast x.0.1 x.1.1)) (both type_at (both (take_at symbol.CloseParen) below.unary)) i
    else mapped (λ x. record { at = at; brackets = x.0.brackets + 1; kind = x.0.kind }) (both below.expression (take_at symbol.CloseParen)) i

-- what begins with a name
unfoldable pub named_by : Readers → Named → Parser Expr
named_by below name i =
    if same_symbol (ahead i) symbol.OpenParen then mapped (λ args. unmarked name.at (kind.Call (record { name = name; args = args }))) (arguments_by below) i
    else mapped reading (below.indices name) i

abbrev pub named_value_by : Readers → Parser Expr
named_value_by below i = name_at i >>= (λ x. named_by below x.0 x.1)

abbrev pub operand_by : Symbol → Readers → Parser Expr
operand_by symbol.OpenParen below i = bracketed_by below (here i) (rest i)
operand_by symbol.Name below i = name_at i >>= (λ x. named_by below x.0 x.1)
operand_by symbol.Star below i = mapped reading below.indirection i
operand_by symbol.Overflow below i = Ok (unmarked (here i) (kind.ReadOverflow (here i)), rest i)
operand_by _ below i = mapped (λ x. unmarked x.0 (kind.Int x.1)) number_at i

unfoldable pub unary_by : Option UnaryMark → Readers → Parser Expr
unary_by (Some mark) below i = mapped (λ part. unmarked (here i) (kind.Unary mark (here i) part)) below.unary (rest i)
unary_by None below i = operand_by (ahead i) below i

-- ---- chains and choices

-- the mark that the symbol is, if it has this rank
abbrev pub ranked : ℕ → Option BinaryMark → Option BinaryMark
ranked n None = None
ranked n (Some mark) = if rank_of mark == n then Some mark else None

abbrev pub if_shallow : ℕ → Expr → Parser Expr → Parser Expr
if_shallow limit e next i = if nat_le limit (depth_of_expression e) then too_deep_at i else next i

-- what follows where a mark is ahead
abbrev pub if_mark : Option BinaryMark → ℕ → Expr → (BinaryMark → Parser Expr) → Parser Expr
if_mark None limit left next i = Ok (left, i)
if_mark (Some mark) limit left next i = if_shallow limit left (next mark) i

-- the marks of this rank that follow, each with its right operand; the first number is how many there may be
unfoldable pub marks_at : ℕ → ℕ → ℕ → Parser Expr → Expr → Parser Expr
marks_at zero rank limit right left i = Ok (left, i)
marks_at (suc fuel) rank limit right left i =
    if_mark (ranked rank (binary_mark (ahead i))) limit left
    (λ mark i. right (rest i) >>= (λ x. marks_at fuel rank limit right (unmarked left.at (kind.Binary mark (here i) left x.0)) x.1)) i

-- the chains whose marks are of at most this rank
unfoldable pub chain_by : ℕ → Readers → Parser Expr → ℕ → Parser Expr
chain_by limit below unary zero i = unary i
chain_by limit below unary (suc n) i = chain_by limit below unary n i >>= (λ x. marks_at (length x.1) (suc n) limit (below.chain n) x.0 x.1)

-- what follows the `?` after a condition
abbrev pub branches_by : Parser Expr → Expr → Parser Expr
branches_by below cond = mapped (λ x. unmarked cond.at (kind.Choose cond x.0 x.1.1)) (both below (both (take_at symbol.Colon) below))

-- what follows the condition of a choice
unfoldable pub choice_by : ℕ → Parser Expr → Expr → Parser Expr
choice_by limit below cond i =
    if same_symbol (ahead i) symbol.Question then
    if_shallow limit cond (λ i. branches_by below cond (rest i)) i
    else Ok (cond, i)

-- ---- the readers one node above these, with a limit of n and one

abbrev pub next_unary : Readers → Parser Expr
next_unary below i = unary_by (unary_mark (ahead i)) below i

unfoldable pub next_readers : ℕ → Readers → Readers
next_readers n below = record {
  indices = indices_by below.expression;
  named = λ i. name_at i >>= (λ x. indices_by below.expression x.0 x.1);
  indirection = mapped (λ x. place.Deref x.0 x.1) (both (take_at symbol.Star) name_at);
  unary = next_unary below;
  chain = chain_by (suc n) below (next_unary below);
  expression = λ i. chain_by (suc n) below (next_unary below) 9 i >>= (λ x. choice_by (suc n) below.expression x.0 x.1);
}

unfoldable pub readers : ℕ → Readers
readers zero = no_readers
readers (suc n) = next_readers n (readers n)

-- ---- what the functions of the parser read

abbrev pub expression_at : ℕ → Parser Expr
expression_at n = (readers n).expression

abbrev pub unary_at : ℕ → Parser Expr
unary_at n = (readers n).unary

abbrev pub chain_at : ℕ → ℕ → Parser Expr
chain_at n rank = (readers n).chain rank

abbrev pub indices_at : ℕ → Named → Parser Place
indices_at n = (readers n).indices

abbrev pub named_at : ℕ → Parser Place
named_at n = (readers n).named

abbrev pub indirection_at : ℕ → Parser Place
indirection_at n = (readers n).indirection

abbrev pub argument_at : ℕ → Parser Arg
argument_at n = argument_by (readers n)

abbrev pub arguments_at : ℕ → Parser (List Arg)
arguments_at n = arguments_by (readers n)

-- a place of any sort
unfoldable pub place_at : ℕ → Parser Place
place_at n i = if same_symbol (ahead i) symbol.Star then indirection_at n i else named_at n i
