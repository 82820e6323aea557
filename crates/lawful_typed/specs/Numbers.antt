-- What the lexer gives of numbers.
use Rattle.std.specs.Prelude.{◌≡◌, Bool, true}
use Rattle.std.specs.List.{list_all}
use Rattle.sat_base.specs.declared.width.Width.TheVariants.{W32}
use Rattle.c_lexer.specs.declared.token.Token.{Token}
use Rattle.c_lexer.specs.declared.token.Tokens.{Tokens}
use Rattle.c_grammar.specs.Spots.{value_of}
use Rattle.lawful_sources.specs.Objects.{fits_width}

-- the value of a token is 0 unless it is a number
abbrev pub token_fits : Token → Bool
token_fits token = fits_width W32 (value_of token.kind)

-- each number among the tokens has 32 bits
abbrev pub NumbersFit : Tokens → Type 0
NumbersFit tokens = list_all token_fits tokens.list ≡ true
