-- What symbols begin, and which marks they are.
use Rattle.std.specs.Prelude.{ℕ, Bool, true, false, ◌==◌, Option, Some, None}
use Rattle.sat_base.specs.declared.width.Width.{Width}
use Rattle.sat_base.specs.declared.width.Width.TheVariants.{W16, W32}
use Rattle.c_tree.specs.declared.expression.BinaryMark.{BinaryMark}
use Rattle.c_tree.specs.declared.expression.BinaryMark.TheVariants as binary
use Rattle.c_tree.specs.declared.expression.UnaryMark.{UnaryMark}
use Rattle.c_tree.specs.declared.expression.UnaryMark.TheVariants as unary
use Rattle.c_tree.specs.declared.simple.AssignMark.{AssignMark}
use Rattle.c_tree.specs.declared.simple.AssignMark.TheVariants as assign
use Rattle.c_grammar.specs.declared.symbol.Symbol.{Symbol}
use Rattle.c_grammar.specs.declared.symbol.Symbol.TheVariants as symbol

-- the symbols are numbered, so that they can be compared
abbrev pub number_of : Symbol → ℕ
number_of symbol.Name = 0
number_of symbol.Int = 1
number_of symbol.End = 2
number_of symbol.Unused = 3
number_of symbol.Extern = 4
number_of symbol.Flag = 5
number_of symbol.IntWord = 6
number_of symbol.Overflow = 7
number_of symbol.Static = 8
number_of symbol.Const = 9
number_of symbol.Void = 10
number_of symbol.Word16 = 11
number_of symbol.Short = 12
number_of symbol.Word32 = 13
number_of symbol.Long = 14
number_of symbol.If = 15
number_of symbol.Else = 16
number_of symbol.While = 17
number_of symbol.Do = 18
number_of symbol.For = 19
number_of symbol.Break = 20
number_of symbol.Continue = 21
number_of symbol.Return = 22
number_of symbol.OpenParen = 23
number_of symbol.CloseParen = 24
number_of symbol.OpenBracket = 25
number_of symbol.CloseBracket = 26
number_of symbol.OpenBrace = 27
number_of symbol.CloseBrace = 28
number_of symbol.Comma = 29
number_of symbol.Semicolon = 30
number_of symbol.Question = 31
number_of symbol.Colon = 32
number_of symbol.Equal = 33
number_of symbol.PlusEqual = 34
number_of symbol.MinusEqual = 35
number_of symbol.StarEqual = 36
number_of symbol.AndEqual = 37
number_of symbol.OrEqual = 38
number_of symbol.XorEqual = 39
number_of symbol.PlusPlus = 40
number_of symbol.MinusMinus = 41
number_of symbol.OrOr = 42
number_of symbol.AndAnd = 43
number_of symbol.Or = 44
number_of symbol.Xor = 45
number_of symbol.And = 46
number_of symbol.EqualEqual = 47
number_of symbol.NotEqual = 48
number_of symbol.Less = 49
number_of symbol.LessEqual = 50
number_of symbol.Greater = 51
number_of symbol.GreaterEqual = 52
number_of symbol.Plus = 53
number_of symbol.Minus = 54
number_of symbol.Star = 55
number_of symbol.Not = 56
number_of symbol.Tilde = 57

abbrev pub same_symbol : Symbol → Symbol → Bool
same_symbol s t = number_of s == number_of t

-- the mark between two operands that the symbol is
abbrev pub binary_mark : Symbol → Option BinaryMark
binary_mark symbol.OrOr = Some binary.Either
binary_mark symbol.AndAnd = Some binary.Both
binary_mark symbol.Or = Some binary.BitOr
binary_mark symbol.Xor = Some binary.BitXor
binary_mark symbol.And = Some binary.BitAnd
binary_mark symbol.EqualEqual = Some binary.Eq
binary_mark symbol.NotEqual = Some binary.Ne
binary_mark symbol.Less = Some binary.Lt
binary_mark symbol.LessEqual = Some binary.Le
binary_mark symbol.Greater = Some binary.Gt
binary_mark symbol.GreaterEqual = Some binary.Ge
binary_mark symbol.Plus = Some binary.Plus
binary_mark symbol.Minus = Some binary.Minus
binary_mark symbol.Star = Some binary.Times
binary_mark _ = None

-- the mark of assignment
abbrev pub assign_mark : Symbol → Option AssignMark
assign_mark symbol.Equal = Some assign.Plain
assign_mark symbol.PlusEqual = Some assign.Plus
assign_mark symbol.MinusEqual = Some assign.Minus
assign_mark symbol.StarEqual = Some assign.Times
assign_mark symbol.AndEqual = Some assign.And
assign_mark symbol.OrEqual = Some assign.Or
assign_mark symbol.XorEqual = Some assign.Xor
assign_mark _ = None

-- the mark before an operand
abbrev pub unary_mark : Symbol → Option UnaryMark
unary_mark symbol.Minus = Some unary.Minus
unary_mark symbol.Plus = Some unary.Plus
unary_mark symbol.Not = Some unary.Not
unary_mark symbol.Tilde = Some unary.Invert
unary_mark _ = None

-- whether a step goes up
abbrev pub step_of : Symbol → Option Bool
step_of symbol.PlusPlus = Some true
step_of symbol.MinusMinus = Some false
step_of _ = None

-- the width of the type that begins with the symbol
abbrev pub width_of : Symbol → Option Width
width_of symbol.Word16 = Some W16
width_of symbol.Short = Some W16
width_of symbol.Word32 = Some W32
width_of symbol.Flag = Some W32
width_of symbol.IntWord = Some W32
width_of symbol.Long = Some W32
width_of _ = None

-- whether a type begins with it
abbrev pub begins_type : Symbol → Bool
begins_type symbol.Word16 = true
begins_type symbol.Short = true
begins_type symbol.Word32 = true
begins_type symbol.Flag = true
begins_type symbol.IntWord = true
begins_type symbol.Long = true
begins_type _ = false

-- whether a declaration of objects does
abbrev pub begins_objects : Symbol → Bool
begins_objects symbol.Word16 = true
begins_objects symbol.Short = true
begins_objects symbol.Word32 = true
begins_objects symbol.Flag = true
begins_objects symbol.IntWord = true
begins_objects symbol.Long = true
begins_objects symbol.Static = true
begins_objects symbol.Const = true
begins_objects _ = false

-- whether an expression does
abbrev pub begins_expression : Symbol → Bool
begins_expression symbol.Minus = true
begins_expression symbol.Plus = true
begins_expression symbol.Not = true
begins_expression symbol.Tilde = true
begins_expression symbol.OpenParen = true
begins_expression symbol.Int = true
begins_expression symbol.Overflow = true
begins_expression symbol.Name = true
begins_expression symbol.Star = true
begins_expression _ = false

-- whether a statement does
abbrev pub begins_statement : Symbol → Bool
begins_statement symbol.Semicolon = true
begins_statement symbol.OpenBrace = true
begins_statement symbol.If = true
begins_statement symbol.While = true
begins_statement symbol.Do = true
begins_statement symbol.For = true
begins_statement symbol.Break = true
begins_statement symbol.Continue = true
begins_statement symbol.Return = true
begins_statement symbol.Name = true
begins_statement symbol.Star = true
begins_statement symbol.PlusPlus = true
begins_statement symbol.MinusMinus = true
begins_statement symbol.Overflow = true
begins_statement _ = false
