-- The tokens of a source as the grammar sees them.
use Rattle.std.specs.Prelude.{ℕ, suc, ℤ, pos, List, [], ◌∷◌, length, take, drop, codes, if◌then◌else◌}
use Rattle.std.specs.Str.{bytes_eq}
use Rattle.sat_base.specs.declared.name.At.{At}
use Rattle.c_lexer.specs.declared.token.Token.{Token}
use Rattle.c_lexer.specs.declared.token.TokenKind.{TokenKind}
use Rattle.c_lexer.specs.declared.token.TokenKind.TheVariants as kind
use Rattle.c_lexer.specs.declared.token.Tokens.{Tokens}
use Rattle.c_grammar.specs.declared.spot.Spot as declared
use Rattle.c_grammar.specs.declared.symbol.Symbol.{Symbol}
use Rattle.c_grammar.specs.declared.symbol.Symbol.TheVariants as symbol

-- a token with its number and place; the name is empty unless it is one, and the value 0 unless it is a number
pub record Spot : Type 0 where
  pub at : At
  pub symbol : Symbol
  pub name : List ℕ
  pub value : ℤ

-- the reserved words that the grammar has
abbrev pub words : List (List ℕ × Symbol)
words =
    (codes "extern", symbol.Extern)
    ∷ (codes "Flag", symbol.Flag)
    ∷ (codes "int", symbol.IntWord)
    ∷ (codes "Overflow", symbol.Overflow)
    ∷ (codes "static", symbol.Static)
    ∷ (codes "const", symbol.Const)
    ∷ (codes "void", symbol.Void)
    ∷ (codes "Word16", symbol.Word16)
    ∷ (codes "short", symbol.Short)
    ∷ (codes "Word32", symbol.Word32)
    ∷ (codes "long", symbol.Long)
    ∷ (codes "if", symbol.If)
    ∷ (codes "else", symbol.Else)
    ∷ (codes "while", symbol.While)
    ∷ (codes "do", symbol.Do)
    ∷ (codes "for", symbol.For)
    ∷ (codes "break", symbol.Break)
    ∷ (codes "continue", symbol.Continue)
    ∷ (codes "return", symbol.Return) ∷ []

-- the marks
abbrev pub marks : List (List ℕ × Symbol)
marks =
    (codes "(", symbol.OpenParen)
    ∷ (codes ")", symbol.CloseParen)
    ∷ (codes "[", symbol.OpenBracket)
    ∷ (codes "]", symbol.CloseBracket)
    ∷ (codes "{", symbol.OpenBrace)
    ∷ (codes "}", symbol.CloseBrace)
    ∷ (codes ",", symbol.Comma)
    ∷ (codes ";", symbol.Semicolon)
    ∷ (codes "?", symbol.Question)
    ∷ (codes ":", symbol.Colon)
    ∷ (codes "=", symbol.Equal)
    ∷ (codes "+=", symbol.PlusEqual)
    ∷ (codes "-=", symbol.MinusEqual)
    ∷ (codes "*=", symbol.StarEqual)
    ∷ (codes "&=", symbol.AndEqual)
    ∷ (codes "|=", symbol.OrEqual)
    ∷ (codes "^=", symbol.XorEqual)
    ∷ (codes "++", symbol.PlusPlus)
    ∷ (codes "--", symbol.MinusMinus)
    ∷ (codes "||", symbol.OrOr)
    ∷ (codes "&&", symbol.AndAnd)
    ∷ (codes "|", symbol.Or)
    ∷ (codes "^", symbol.Xor)
    ∷ (codes "&", symbol.And)
    ∷ (codes "==", symbol.EqualEqual)
    ∷ (codes "!=", symbol.NotEqual)
    ∷ (codes "<", symbol.Less)
    ∷ (codes "<=", symbol.LessEqual)
    ∷ (codes ">", symbol.Greater)
    ∷ (codes ">=", symbol.GreaterEqual)
    ∷ (codes "+", symbol.Plus)
    ∷ (codes "-", symbol.Minus)
    ∷ (codes "*", symbol.Star)
    ∷ (codes "!", symbol.Not)
    ∷ (codes "~", symbol.Tilde) ∷ []

-- the symbol that is written so
abbrev pub symbol_written : List (List ℕ × Symbol) → List ℕ → Symbol
symbol_written [] bytes = symbol.Unused
symbol_written (x ∷ xs) bytes = if bytes_eq x.0 bytes then x.1 else symbol_written xs bytes

abbrev pub symbol_of : TokenKind → List ℕ → Symbol
symbol_of kind.Name bytes = symbol.Name
symbol_of (kind.Int value) bytes = symbol.Int
symbol_of kind.Word bytes = symbol_written words bytes
symbol_of kind.Mark bytes = symbol_written marks bytes

abbrev pub value_of : TokenKind → ℤ
value_of (kind.Int value) = value
value_of kind.Name = pos 0
value_of kind.Word = pos 0
value_of kind.Mark = pos 0

abbrev pub name_of : TokenKind → List ℕ → List ℕ
name_of kind.Name bytes = bytes
name_of (kind.Int value) bytes = []
name_of kind.Word bytes = []
name_of kind.Mark bytes = []

abbrev pub bytes_of : List ℕ → Token → List ℕ
bytes_of text token = take token.len (drop token.start text)

-- the token of this number
abbrev pub spot_of : List ℕ → ℕ → Token → Spot
spot_of text tok token =
    record { at = record { tok = tok; pos = token.pos }; symbol = symbol_of token.kind (bytes_of text token); name = name_of token.kind (bytes_of text token); value = value_of token.kind }

-- these tokens, numbered from this number on
abbrev pub spots_from : List ℕ → ℕ → List Token → List Spot
spots_from text tok [] = []
spots_from text tok (token ∷ tokens) = spot_of text tok token ∷ spots_from text (suc tok) tokens

-- the tokens of a text, numbered from 0
abbrev pub spots_of : Tokens → List Spot
spots_of tokens = spots_from tokens.text 0 tokens.list

-- what stands for the end of all tokens
abbrev pub end_of : Tokens → Spot
end_of tokens = record { at = record { tok = length tokens.list; pos = tokens.end }; symbol = symbol.End; name = []; value = pos 0 }

-- the number and place of the first of these
abbrev pub here : List Spot → At
here [] = record { tok = 0; pos = record { line = 1; col = 1 } }
here (x ∷ xs) = x.at

-- a token as the code has it, without where its name lies in memory
abbrev pub seen : declared.Spot → Spot
seen x = record { at = x.at; symbol = x.symbol; name = x.name.now; value = x.value }
