-- What may follow expressions, places, arguments and types: with another symbol after them they would go on.
use Rattle.std.specs.Prelude.{ℕ, Bool, true, false, Option, Some, None, ◌&&◌, nat_lt}
use Rattle.c_tree.specs.declared.call.Arg.{Arg}
use Rattle.c_tree.specs.declared.expression.BinaryMark.{BinaryMark}
use Rattle.c_tree.specs.declared.expression.Expr.{Expr}
use Rattle.c_tree.specs.declared.place.Place.{Place}
use Rattle.c_grammar.specs.declared.symbol.Symbol.{Symbol}
use Rattle.c_grammar.specs.declared.symbol.Symbol.TheVariants as symbol
use Rattle.c_grammar.specs.Marks.{rank_of}
use Rattle.c_grammar.specs.Symbols.{binary_mark}

-- a place goes on with `[`; the end of all tokens follows none
abbrev pub ends_place : Symbol → Bool
ends_place symbol.OpenBracket = false
ends_place symbol.End = false
ends_place _ = true

abbrev pub stops_place : Place → Symbol → Bool
stops_place p s = ends_place s

-- an operand goes on with `[` and, where it is a name, with `(`
abbrev pub ends_operand : Symbol → Bool
ends_operand symbol.OpenParen = false
ends_operand symbol.OpenBracket = false
ends_operand symbol.End = false
ends_operand _ = true

abbrev pub stops_operand : Expr → Symbol → Bool
stops_operand e s = ends_operand s

-- a chain of marks up to rank k goes on with such marks
abbrev pub loose : ℕ → Option BinaryMark → Bool
loose k None = true
loose k (Some m) = nat_lt k (rank_of m)

abbrev pub ends_chain : ℕ → Symbol → Bool
ends_chain k s = ends_operand s && loose k (binary_mark s)

abbrev pub stops_chain : ℕ → Expr → Symbol → Bool
stops_chain k e s = ends_chain k s

-- an expression goes on with all marks and with `?`
abbrev pub ends_expression : Symbol → Bool
ends_expression symbol.Question = false
ends_expression symbol.OpenParen = false
ends_expression symbol.OpenBracket = false
ends_expression symbol.End = false
ends_expression symbol.OrOr = false
ends_expression symbol.AndAnd = false
ends_expression symbol.Or = false
ends_expression symbol.Xor = false
ends_expression symbol.And = false
ends_expression symbol.EqualEqual = false
ends_expression symbol.NotEqual = false
ends_expression symbol.Less = false
ends_expression symbol.LessEqual = false
ends_expression symbol.Greater = false
ends_expression symbol.GreaterEqual = false
ends_expression symbol.Plus = false
ends_expression symbol.Minus = false
ends_expression symbol.Star = false
ends_expression _ = true

abbrev pub stops_expression : Expr → Symbol → Bool
stops_expression e s = ends_expression s

abbrev pub stops_arg : Arg → Symbol → Bool
stops_arg x s = ends_expression s

-- a type goes on with `int`
abbrev pub no_int : Symbol → Bool
no_int symbol.IntWord = false
no_int _ = true
