-- The marks of the grammar and their spellings, and how tightly a mark between two operands binds.
use Rattle.std.specs.Prelude.{ℕ, Bool, true, false}
use Rattle.c_tree.specs.declared.expression.BinaryMark.{BinaryMark}
use Rattle.c_tree.specs.declared.expression.BinaryMark.TheVariants as binary
use Rattle.c_tree.specs.declared.expression.UnaryMark.{UnaryMark}
use Rattle.c_tree.specs.declared.expression.UnaryMark.TheVariants as unary
use Rattle.c_tree.specs.declared.simple.AssignMark.{AssignMark}
use Rattle.c_tree.specs.declared.simple.AssignMark.TheVariants as assign
use Rattle.c_grammar.specs.declared.symbol.Symbol.{Symbol}
use Rattle.c_grammar.specs.declared.symbol.Symbol.TheVariants as symbol

abbrev pub assign_symbol : AssignMark → Symbol
assign_symbol assign.Plain = symbol.Equal
assign_symbol assign.Plus = symbol.PlusEqual
assign_symbol assign.Minus = symbol.MinusEqual
assign_symbol assign.Times = symbol.StarEqual
assign_symbol assign.And = symbol.AndEqual
assign_symbol assign.Or = symbol.OrEqual
assign_symbol assign.Xor = symbol.XorEqual

abbrev pub step_symbol : Bool → Symbol
step_symbol true = symbol.PlusPlus
step_symbol false = symbol.MinusMinus

abbrev pub unary_symbol : UnaryMark → Symbol
unary_symbol unary.Minus = symbol.Minus
unary_symbol unary.Plus = symbol.Plus
unary_symbol unary.Not = symbol.Not
unary_symbol unary.Invert = symbol.Tilde

abbrev pub binary_symbol : BinaryMark → Symbol
binary_symbol binary.Either = symbol.OrOr
binary_symbol binary.Both = symbol.AndAnd
binary_symbol binary.BitOr = symbol.Or
binary_symbol binary.BitXor = symbol.Xor
binary_symbol binary.BitAnd = symbol.And
binary_symbol binary.Eq = symbol.EqualEqual
binary_symbol binary.Ne = symbol.NotEqual
binary_symbol binary.Lt = symbol.Less
binary_symbol binary.Le = symbol.LessEqual
binary_symbol binary.Gt = symbol.Greater
binary_symbol binary.Ge = symbol.GreaterEqual
binary_symbol binary.Plus = symbol.Plus
binary_symbol binary.Minus = symbol.Minus
binary_symbol binary.Times = symbol.Star

-- the rank of a mark between operands: the lower, the tighter it binds (C90, 6.3.5 to 6.3.14)
abbrev pub rank_of : BinaryMark → ℕ
rank_of binary.Times = 1
rank_of binary.Plus = 2
rank_of binary.Minus = 2
rank_of binary.Lt = 3
rank_of binary.Le = 3
rank_of binary.Gt = 3
rank_of binary.Ge = 3
rank_of binary.Eq = 4
rank_of binary.Ne = 4
rank_of binary.BitAnd = 5
rank_of binary.BitXor = 6
rank_of binary.BitOr = 7
rank_of binary.Both = 8
rank_of binary.Either = 9
