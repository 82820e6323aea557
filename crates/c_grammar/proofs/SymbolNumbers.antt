-- The numbers of symbols tell them apart.
use Rattle.std.proofs.Common.{◌≡◌, ◌≢◌, ℕ, true, false, List, [], ◌∷◌, get_or, refl, ap, subst, ◌∙◌, sym}
use Rattle.std.proofs.lemmas.Bool.{eqb-true, eq-eqb}
use denote.Enum.Declared.{tag_of}
use Rattle.c_grammar.specs.contracts.symbol.Symbol.{the_type}
use Rattle.c_grammar.specs.declared.symbol.Symbol.{Symbol}
use Rattle.c_grammar.specs.declared.symbol.Symbol.TheVariants as symbol
use Rattle.c_grammar.specs.Symbols.{number_of, same_symbol}

-- they are those of the variants in order
pub tag_is_number : (s : Symbol) → tag_of the_type s ≡ number_of s
tag_is_number symbol.Name = refl
tag_is_number _ = refl

-- all symbols, in the order of their numbers
abbrev pub symbols : List Symbol
symbols =
    symbol.Name ∷ symbol.Int ∷ symbol.End ∷ symbol.Unused ∷ symbol.Extern ∷ symbol.Flag ∷ symbol.IntWord
    ∷ symbol.Overflow ∷ symbol.Static ∷ symbol.Const ∷ symbol.Void ∷ symbol.Word16 ∷ symbol.Short ∷ symbol.Word32
    ∷ symbol.Long ∷ symbol.If ∷ symbol.Else ∷ symbol.While ∷ symbol.Do ∷ symbol.For ∷ symbol.Break ∷ symbol.Continue
    ∷ symbol.Return ∷ symbol.OpenParen ∷ symbol.CloseParen ∷ symbol.OpenBracket ∷ symbol.CloseBracket
    ∷ symbol.OpenBrace ∷ symbol.CloseBrace ∷ symbol.Comma ∷ symbol.Semicolon ∷ symbol.Question ∷ symbol.Colon
    ∷ symbol.Equal ∷ symbol.PlusEqual ∷ symbol.MinusEqual ∷ symbol.StarEqual ∷ symbol.AndEqual ∷ symbol.OrEqual
    ∷ symbol.XorEqual ∷ symbol.PlusPlus ∷ symbol.MinusMinus ∷ symbol.OrOr ∷ symbol.AndAnd ∷ symbol.Or ∷ symbol.Xor
    ∷ symbol.And ∷ symbol.EqualEqual ∷ symbol.NotEqual ∷ symbol.Less ∷ symbol.LessEqual ∷ symbol.Greater
    ∷ symbol.GreaterEqual ∷ symbol.Plus ∷ symbol.Minus ∷ symbol.Star ∷ symbol.Not ∷ symbol.Tilde ∷ []

abbrev pub numbered : ℕ → Symbol
numbered n = get_or symbols n symbol.Tilde

pub numbered-number : (s : Symbol) → numbered (number_of s) ≡ s
numbered-number symbol.Name = refl
numbered-number _ = refl

pub same-is : (s t : Symbol) → same_symbol s t ≡ true → s ≡ t
same-is s t e = sym (numbered-number s) ∙ ap numbered (eqb-true (number_of s) (number_of t) e) ∙ numbered-number t

pub same-self : (s : Symbol) → same_symbol s s ≡ true
same-self s = eq-eqb (number_of s) (number_of s) refl

pub other-is : (s t : Symbol) → same_symbol s t ≡ false → s ≢ t
other-is s t e f = let g : same_symbol t t ≡ false = subst (λ (x : Symbol). same_symbol x t ≡ false) f e in cc (g, same-self t)
