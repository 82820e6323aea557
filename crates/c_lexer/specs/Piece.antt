-- What the pieces of a text are, each by itself and whatever follows it (ISO/IEC 9899:1990, 6.1).
use Rattle.std.specs.Prelude.{◌≡◌, ℕ, suc, ◌+◌, ◌<◌, ◌≤◌, nat_le, slice_index, ◌==◌, Bool, not, ◌&&◌, ◌||◌, ◌⊎◌, List, [], ◌∷◌, ◌++◌, length, take, codes, IsTrue}
use Rattle.std.specs.List.{list_any, list_all}
use Rattle.std.specs.Str.{bytes_eq}
use Rattle.c_lexer.specs.declared.lexeme.Kind.{Kind}
use Rattle.c_lexer.specs.declared.lexeme.Kind.TheVariants.{White, Comment, OpenComment, Word, Number, Mark, Hash, Other}
use Rattle.c_lexer.specs.declared.lexeme.Lexeme.{Lexeme}
use Rattle.c_lexer.specs.Lexeme.{is_white, is_word_start, is_word_byte, is_in_line}

-- ---- words, numbers and marks

abbrev pub is_decimal : ℕ → Bool
is_decimal b = nat_le 48 b && nat_le b 57

-- a byte of some kind, and then letters, digits and `_`
abbrev pub IsRun : (ℕ → Bool) → List ℕ → Type 0
IsRun begins [] = ⊥
IsRun begins (b ∷ bs) = IsTrue (begins b) × IsTrue (list_all is_word_byte bs)

abbrev pub marks : List (List ℕ)
marks =
    codes "(" ∷ codes ")" ∷ codes "[" ∷ codes "]" ∷ codes "{" ∷ codes "}" ∷ codes "," ∷ codes ";" ∷ codes "?" ∷ codes ":" ∷ codes "~"
    ∷ codes "=" ∷ codes "==" ∷ codes "!" ∷ codes "!=" ∷ codes "<" ∷ codes "<=" ∷ codes ">" ∷ codes ">=" ∷ codes "+" ∷ codes "++" ∷ codes "+="
    ∷ codes "-" ∷ codes "--" ∷ codes "-=" ∷ codes "*" ∷ codes "*=" ∷ codes "&" ∷ codes "&&" ∷ codes "&=" ∷ codes "|" ∷ codes "||" ∷ codes "|="
    ∷ codes "^" ∷ codes "^=" ∷ []

abbrev pub is_mark : List ℕ → Bool
is_mark bytes = list_any (λ m. bytes_eq m bytes) marks

-- ---- comments

-- `*/` stands after this many of the bytes
abbrev pub ClosesAt : List ℕ → ℕ → Type 0
ClosesAt bytes n = (slice_index bytes n ≡ 42) × (slice_index bytes (suc n) ≡ 47)

-- the first `*/` stands there
pub record ClosesFirst (bytes : List ℕ) (n : ℕ) : Type 0 where
  pub closes : ClosesAt bytes n
  pub first : (m : ℕ) → m < n → ClosesAt bytes m → ⊥

-- `/*`, and then what ends with its first `*/`
pub record IsBlockComment (bytes : List ℕ) : Type 0 where
  pub body : List ℕ
  pub opens : bytes ≡ codes "/*" ++ body
  pub inner : ℕ
  pub closed : ClosesFirst body inner
  pub ends : length body ≡ inner + 2

-- `//`, and then no line feed
pub record IsLineComment (bytes : List ℕ) : Type 0 where
  pub body : List ℕ
  pub opens : bytes ≡ codes "//" ++ body
  pub line : IsTrue (list_all is_in_line body)

-- `/*`, and then no `*/`
pub record IsOpenComment (bytes : List ℕ) : Type 0 where
  pub body : List ℕ
  pub opens : bytes ≡ codes "/*" ++ body
  pub unclosed : (n : ℕ) → ClosesAt body n → ⊥

-- ---- pieces of one byte

abbrev pub IsByte : (ℕ → Bool) → List ℕ → Type 0
IsByte test [] = ⊥
IsByte test (b ∷ []) = IsTrue (test b)
IsByte test (b ∷ c ∷ bs) = ⊥

abbrev pub is_number_sign : ℕ → Bool
is_number_sign b = b == 35

-- a byte that is no piece of another kind
abbrev pub is_stray : ℕ → Bool
is_stray b = not (is_white b || is_word_byte b || is_mark (b ∷ []) || is_number_sign b)

-- ---- pieces

-- the bytes are a piece of the kind
abbrev pub IsPiece : Kind → List ℕ → Type 0
IsPiece White bytes = IsByte is_white bytes
IsPiece Comment bytes = IsBlockComment bytes ⊎ IsLineComment bytes
IsPiece OpenComment bytes = IsOpenComment bytes
IsPiece Word bytes = IsRun is_word_start bytes
IsPiece Number bytes = IsRun is_decimal bytes
IsPiece Mark bytes = IsTrue (is_mark bytes)
IsPiece Hash bytes = IsByte is_number_sign bytes
IsPiece Other bytes = IsByte is_stray bytes

-- a front of the rest of a text is a piece, and no longer front is one
pub record IsLongest (rest : List ℕ) (front : Lexeme) : Type 0 where
  pub within : front.len ≤ length rest
  pub piece : IsPiece front.kind (take front.len rest)
  pub longest : (n : ℕ) (kind : Kind) → front.len < n → n ≤ length rest → IsPiece kind (take n rest) → ⊥
