-- What follows from the definitions of texts, pieces and words alone.
use Rattle.std.specs.Prelude.{◌≡◌, ◌≢◌, ◌↔◌, ◌⊎◌, ℕ, ◌+◌, ◌≤◌, ◌<◌, true, false, IsTrue, if◌then◌else◌, List, [], ◌∷◌, length, take, drop, slice_index, slice_index_or, map, sum_by}
use Rattle.std.specs.List.{All, concat}
use Rattle.c_lexer.specs.declared.lexeme.Kind.{Kind}
use Rattle.c_lexer.specs.declared.lexeme.Kind.TheVariants.{OpenComment, Hash}
use Rattle.c_lexer.specs.declared.lexeme.Lexeme.{Lexeme}
use Rattle.c_lexer.specs.Directive.{line_pieces}
use Rattle.c_lexer.specs.Lexeme.{is_hash, lexeme_of}
use Rattle.operator_meaning.specs.Table.{IsNameOf}
use Rattle.operator_meaning.specs.declared.operator.Op.{Op}
use Rattle.c_lexer.specs.Names.{is_basic}
use Rattle.c_lexer.specs.Piece.{IsPiece, IsOpenComment, IsLongest}
use Rattle.c_lexer.specs.Text.{Piece, pieces_of}

-- the pieces of a text, one after the other, are the text
abbrev pub PiecesMakeTheText : Type 0
PiecesMakeTheText = (text : List ℕ) → concat (map (λ p. p.bytes) (pieces_of text)) ≡ text

-- what stands before a piece is the pieces before it
abbrev pub PiecesFollow : Type 0
PiecesFollow = (text : List ℕ) (k : ℕ) (d : Piece) → k < length (pieces_of text) →
    (slice_index_or (pieces_of text) k d).before ≡ concat (map (λ p. p.bytes) (take k (pieces_of text)))

-- at the front of each rest of a text stands the longest piece
abbrev pub FrontsAreLongest : Type 0
FrontsAreLongest = (rest : List ℕ) → 0 < length rest → IsLongest rest (lexeme_of rest)

-- of a piece of a text, its kind and its length; of a directive, those of its `#`
abbrev pub front_of : Piece → Lexeme
front_of p = record { kind = p.kind; len = if is_hash p.kind then 1 else length p.bytes }

-- each piece of a text is the longest at its place
abbrev pub PiecesAreLongest : Type 0
PiecesAreLongest = (text : List ℕ) → All (λ p. IsLongest (drop (length p.before) text) (front_of p)) (pieces_of text)

-- the line of a directive ends with the text, before a line feed, and before a `/*` that no `*/` follows
abbrev pub EndsLine : List ℕ → Type 0
EndsLine rest = (length rest ≡ 0) ⊎ ((slice_index rest 0 ≡ 10) ⊎ IsOpenComment rest)

-- up to the end of its line, the rest of a text is these pieces, each the longest at its place
abbrev pub IsLineOf : List ℕ → List (Kind × List ℕ) → Type 0
IsLineOf rest [] = EndsLine rest
IsLineOf rest (p ∷ ps) =
    (EndsLine rest → ⊥) × IsLongest rest (record { kind = p.0; len = length p.1 }) × (p.1 ≡ take (length p.1) rest) × IsLineOf (drop (length p.1) rest) ps

-- the pieces of a line of a directive are the longest
abbrev pub LinesAreLongest : Type 0
LinesAreLongest = (rest : List ℕ) → IsLineOf rest (line_pieces (length rest) rest)

-- ---- the only cutting

-- at the front of the rest of a line stand these pieces, each the longest at its place, and none is a line feed or a
-- `/*` without its `*/`
abbrev pub StandInLine : List ℕ → List (Kind × List ℕ) → Type 0
StandInLine rest [] = Unit {0}
StandInLine rest (p ∷ ps) =
    (p.1 ≢ 10 ∷ []) × (p.0 ≢ OpenComment) × IsLongest rest (record { kind = p.0; len = length p.1 }) × (p.1 ≡ take (length p.1) rest) × StandInLine (drop (length p.1) rest) ps

abbrev pub bytes_in : List (Kind × List ℕ) → ℕ
bytes_in pieces = sum_by (λ p. length p.1) pieces

-- so many bytes at the front of the rest of a text are a directive, as long as it can be: a `#`, and pieces that
-- stand in its line
pub record IsLongestDirective (rest : List ℕ) (len : ℕ) : Type 0 where
  pub sign : IsPiece Hash (take 1 rest)
  pub pieces : List (Kind × List ℕ)
  pub line : StandInLine (drop 1 rest) pieces
  pub bytes : len ≡ 1 + bytes_in pieces
  pub longest : (more : List (Kind × List ℕ)) → StandInLine (drop 1 rest) more → bytes_in more ≤ bytes_in pieces

-- the piece stands at the front of the rest of a text, and is as long as it can be there
pub record IsFirstPiece (rest : List ℕ) (piece : Kind × List ℕ) : Type 0 where
  pub front : piece.1 ≡ take (length piece.1) rest
  pub directive : is_hash piece.0 ≡ true → IsLongestDirective rest (length piece.1)
  pub other : is_hash piece.0 ≡ false → IsLongest rest (record { kind = piece.0; len = length piece.1 })

-- the rest of a text is cut into these pieces, each as long as it can be
abbrev pub IsCutting : List ℕ → List (Kind × List ℕ) → Type 0
IsCutting rest [] = rest ≡ []
IsCutting rest (p ∷ ps) = IsFirstPiece rest p × IsCutting (drop (length p.1) rest) ps

abbrev pub cutting_of : List ℕ → List (Kind × List ℕ)
cutting_of text = map (λ p. (p.kind, p.bytes)) (pieces_of text)

-- the pieces of a text are such a cutting, and there is no other
abbrev pub IsOnlyCutting : Type 0
IsOnlyCutting = (text : List ℕ) → IsCutting text (cutting_of text) × ((cutting : List (Kind × List ℕ)) → IsCutting text cutting → cutting ≡ cutting_of text)

-- no bytes are pieces of two kinds
abbrev pub KindsAreApart : Type 0
KindsAreApart = (bytes : List ℕ) (kind other : Kind) → IsPiece kind bytes → IsPiece other bytes → kind ≡ other

-- a word is taken for a basic operator exactly if it is the name of one
abbrev pub OperatorsAreNamed : Type 0
OperatorsAreNamed = (word : List ℕ) → IsTrue (is_basic word) ↔ ((op : Op) × IsNameOf word op)
