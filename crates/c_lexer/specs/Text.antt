-- The tokens of a text. A text is cut into pieces, whose concatenation is the text; each of them is the longest
-- at its place. Each piece is then judged by itself, after the pieces before it.
use Rattle.std.specs.Prelude.{◌≡◌, ℕ, zero, suc, ◌+◌, nat_lt, ◌==◌, Bool, true, false, IsTrue, not, ◌&&◌, ◌||◌, if◌then◌else◌, ℤ, List, [], ◌∷◌, ◌++◌, length, take, drop, fold, count_by, Option, Some, None}
use Rattle.std.specs.List.{list_any}
use Rattle.std.specs.Option.{option_map, option_map_or, option_to_list, unwrap_or, is_some}
use Rattle.sat_base.specs.Position.{position_after}
use Rattle.sat_base.specs.declared.limits.TheConstants.{TOKENS}
use Rattle.sat_base.specs.declared.position.Pos.{Pos}
use Rattle.c_lexer.specs.declared.lexeme.Kind.{Kind}
use Rattle.c_lexer.specs.declared.lexeme.Kind.TheVariants.{White, Comment, OpenComment, Word, Number, Mark, Hash, Other}
use Rattle.c_lexer.specs.declared.token.LexRefusal.{LexRefusal}
use Rattle.c_lexer.specs.declared.token.LexRefusal.TheVariants as refusals
use Rattle.c_lexer.specs.declared.token.Token.{Token}
use Rattle.c_lexer.specs.declared.token.TokenKind.{TokenKind}
use Rattle.c_lexer.specs.declared.token.TokenKind.TheVariants as tokens
use Rattle.c_lexer.specs.declared.token.Tokens.{Tokens}
use Rattle.c_lexer.specs.Directive.{is_blank, line_parts, line_bytes, after_directive}
use Rattle.c_lexer.specs.Expression.{Part}
use Rattle.c_lexer.specs.Lexeme.{is_hash, lexeme_of}
use Rattle.c_lexer.specs.Names.{predefined, is_reserved, value_named}
use Rattle.c_lexer.specs.Number.{number_value}
use Rattle.c_lexer.specs.Obeyed.{IsObeyed}

-- ---- the cutting

-- a piece of a text
pub record Piece : Type 0 where
  -- all bytes of the text before it
  pub before : List ℕ
  pub kind : Kind
  pub bytes : List ℕ
  -- of a directive, what stands after its `#`
  pub parts : List Part

-- a directive reaches to the end of its line
abbrev pub piece_bytes : List ℕ → List ℕ
piece_bytes rest = take (if is_hash (lexeme_of rest).kind then 1 + line_bytes (drop 1 rest) else (lexeme_of rest).len) rest

-- the longest piece at the front of the rest of a text
unfoldable pub piece_at : List ℕ → List ℕ → Piece
piece_at before rest =
    record { before = before; kind = (lexeme_of rest).kind; bytes = piece_bytes rest; parts = if is_hash (lexeme_of rest).kind then line_parts (drop 1 rest) else [] }

-- the pieces of the rest of a text, at most this many
unfoldable pub pieces_from : ℕ → List ℕ → List ℕ → List Piece
pieces_from zero before rest = []
pieces_from (suc n) before [] = []
pieces_from (suc n) before (b ∷ bs) =
    piece_at before (b ∷ bs) ∷ pieces_from n (before ++ piece_bytes (b ∷ bs)) (drop (length (piece_bytes (b ∷ bs))) (b ∷ bs))

-- the pieces of a text: each has a byte or more
abbrev pub pieces_of : List ℕ → List Piece
pieces_of text = pieces_from (length text) [] text

-- ---- what the pieces before a piece say

-- words, numbers and marks are tokens
abbrev pub is_token : Kind → Bool
is_token White = false
is_token Comment = false
is_token OpenComment = false
is_token Word = true
is_token Number = true
is_token Mark = true
is_token Hash = false
is_token Other = false

-- how many of the pieces are tokens
abbrev pub token_count : List Piece → ℕ
token_count pieces = count_by (λ p. is_token p.kind) pieces

-- whether a token stands on the last line of the pieces: no line feed follows it
abbrev pub on_line_after : Bool → Piece → Bool
on_line_after on_line p = is_token p.kind || (on_line && not (list_any (λ b. b == 10) p.bytes))

abbrev pub token_on_line : List Piece → Bool
token_on_line pieces = fold on_line_after false pieces

-- the definitions of the directives among the pieces
abbrev pub names_after : List (List ℕ × ℤ) → Piece → List (List ℕ × ℤ)
names_after names p = if is_hash p.kind then unwrap_or (after_directive names p.parts) names else names

abbrev pub names_defined : List Piece → List (List ℕ × ℤ)
names_defined pieces = fold names_after predefined pieces

-- ---- a piece by itself

-- what kind of token a word is
abbrev pub word_kind : List (List ℕ × ℤ) → List ℕ → TokenKind
word_kind names word = if is_reserved word then tokens.Word else option_map_or (λ v. tokens.Int v) (value_named names word) tokens.Name

-- what kind of token a piece is
abbrev pub token_kind : List (List ℕ × ℤ) → List ℕ → Kind → Option TokenKind
token_kind names bytes White = None
token_kind names bytes Comment = None
token_kind names bytes OpenComment = None
token_kind names bytes Word = Some (word_kind names bytes)
token_kind names bytes Number = option_map tokens.Int (number_value bytes)
token_kind names bytes Mark = Some tokens.Mark
token_kind names bytes Hash = None
token_kind names bytes Other = None

abbrev pub token_of : Piece → TokenKind → Token
token_of p kind = record { kind = kind; start = length p.before; len = length p.bytes; pos = position_after p.before }

-- the token that a piece is
abbrev pub token_at : List (List ℕ × ℤ) → Piece → Option Token
token_at names p =
    option_map (token_of p) (token_kind names p.bytes p.kind)

-- a token after this many others, of which there may be no more than the limit
abbrev pub too_many : ℕ → Pos → Option LexRefusal
too_many count at = if nat_lt count TOKENS then None else Some (refusals.TooManyTokens at)

-- what is wrong with a piece after pieces with these definitions and this many tokens, where a token stands
-- before it on its line or does not
abbrev pub fault_by : List (List ℕ × ℤ) → Bool → ℕ → Piece → Pos → Kind → Option LexRefusal
fault_by names on_line count p at White = None
fault_by names on_line count p at Comment = None
fault_by names on_line count p at OpenComment = Some (refusals.OpenComment at)
fault_by names on_line count p at Word = too_many count at
fault_by names on_line count p at Number = if is_some (number_value p.bytes) then too_many count at else Some (refusals.BadNumber at)
fault_by names on_line count p at Mark = too_many count at
fault_by names on_line count p at Hash =
    if on_line then Some (refusals.BadByte at) else if is_some (after_directive names p.parts) then None else Some (refusals.BadDirective at)
fault_by names on_line count p at Other = Some (refusals.BadByte at)

abbrev pub fault_at : List (List ℕ × ℤ) → Bool → ℕ → Piece → Option LexRefusal
fault_at names on_line count p = fault_by names on_line count p (position_after p.before) p.kind

-- ---- the whole text

-- the tokens that the pieces are, after those before them
unfoldable pub tokens_after : List Piece → List Piece → List Token
tokens_after earlier [] = []
tokens_after earlier (p ∷ ps) = option_to_list (token_at (names_defined earlier) p) ++ tokens_after (earlier ++ p ∷ []) ps

-- the first of the pieces that is wrong, after those before them
unfoldable pub fault_after : List Piece → List Piece → Option LexRefusal
fault_after earlier [] = None
fault_after earlier (p ∷ ps) =
    option_map_or (λ fault. Some fault) (fault_at (names_defined earlier) (token_on_line earlier) (token_count earlier) p) (fault_after (earlier ++ p ∷ []) ps)

-- the tokens of a text
abbrev pub tokens_of : List ℕ → List Token
tokens_of text = tokens_after [] (pieces_of text)

-- the first place at which a text breaks the lexical rules, with its kind
abbrev pub first_lexical_fault : List ℕ → Option LexRefusal
first_lexical_fault text = fault_after [] (pieces_of text)

-- ---- the tokens by cases

-- after pieces with these definitions, these pieces are these tokens
pub data AreTokens : List (List ℕ × ℤ) → List Piece → List Token → Type 0 where
  Nothing : {names : List (List ℕ × ℤ)} → AreTokens names [] []
  Blank : {names : List (List ℕ × ℤ)} {p : Piece} {ps : List Piece} {ts : List Token} → IsTrue (is_blank p.kind) → AreTokens names ps ts → AreTokens names (p ∷ ps) ts
  Directive : {names after : List (List ℕ × ℤ)} {p : Piece} {ps : List Piece} {ts : List Token} → p.kind ≡ Hash → IsObeyed names p.parts after → AreTokens after ps ts → AreTokens names (p ∷ ps) ts
  Taken : {names : List (List ℕ × ℤ)} {p : Piece} {kind : TokenKind} {ps : List Piece} {ts : List Token} → token_kind names p.bytes p.kind ≡ Some kind → AreTokens names ps ts
      → AreTokens names (p ∷ ps) (token_of p kind ∷ ts)

-- ---- the answer

-- a text that breaks no rule, with its tokens, whose definitions are those that its directives spell
pub record IsCut (source : List ℕ) (answer : Tokens) : Type 0 where
  pub faultless : first_lexical_fault source ≡ None
  pub by_cases : AreTokens predefined (pieces_of source) answer.list
  pub text : answer.text ≡ source
  pub list : answer.list ≡ tokens_of source
  pub end : answer.end ≡ position_after source
