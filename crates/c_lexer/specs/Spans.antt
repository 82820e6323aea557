-- Where the tokens of a text stand in it.
use Rattle.std.specs.Prelude.{ℕ, ◌+◌, ◌≤◌, List, length}
use Rattle.c_lexer.specs.declared.token.Token.{Token}

-- the token lies in the text
pub record LiesIn (text : List ℕ) (token : Token) : Type 0 where
  pub within : token.start + token.len ≤ length text

-- the token has a byte or more
abbrev pub HasBytes : Token → Type 0
HasBytes token = 1 ≤ token.len

-- the token ends before the other one begins
abbrev pub Precedes : Token → Token → Type 0
Precedes token other = token.start + token.len ≤ other.start
