-- What the code keeps while it judges one piece after the other.
use Rattle.std.specs.Prelude.{◌≡◌, ℕ, ◌+◌, ◌<◌, true, false, ◌⊎◌, List, [], ◌∷◌, ◌++◌, length, take, drop, Some, None, Result, MatchResult}
use Rattle.std.specs.Option.{option_to_list}
use Rattle.sat_base.specs.declared.limits.TheConstants.{TOKENS}
use Rattle.sat_base.specs.declared.position.Pos.{Pos}
use Rattle.c_lexer.specs.declared.lexeme.Kind.TheVariants.{Hash}
use Rattle.c_lexer.specs.declared.lexeme.Lexeme.{Lexeme}
use Rattle.c_lexer.specs.declared.lexer.Lexer.{Lexer}
use Rattle.c_lexer.specs.declared.token.LexRefusal.{LexRefusal}
use Rattle.c_lexer.specs.declared.token.LexRefusal.TheVariants as refusals
use Rattle.c_lexer.specs.declared.token.TokenKind.{TokenKind}
use Rattle.c_lexer.specs.Directive.{line_parts, line_bytes}
use Rattle.c_lexer.specs.Names.{predefined}
use Rattle.c_lexer.specs.Text.{Piece, piece_at, fault_at, token_at, names_after, on_line_after}
use Rattle.c_lexer.specs.Views.{names_of}

-- before the text
pub record IsBegun (l : Lexer) : Type 0 where
  pub list : l.list ≡ []
  pub names : names_of l.names ≡ predefined
  pub on_line : l.on_line ≡ false

-- after one more token
pub record HasPushed (kind : TokenKind) (start len : ℕ) (at : Pos) (before after : Lexer) : Type 0 where
  pub few : length before.list < TOKENS
  pub list : after.list ≡ before.list ++ record { kind = kind; start = start; len = len; pos = at } ∷ []
  pub names : after.names ≡ before.names
  pub on_line : after.on_line ≡ true

-- the piece at a place of a text, if it is no directive
abbrev pub plain_piece : List ℕ → ℕ → Lexeme → Piece
plain_piece text at l = record { before = take at text; kind = l.kind; bytes = take l.len (drop at text); parts = [] }

-- the directive at a place of a text
abbrev pub directive_piece : List ℕ → ℕ → Piece
directive_piece text at =
    record { before = take at text; kind = Hash; bytes = take (1 + line_bytes (drop (at + 1) text)) (drop at text); parts = line_parts (drop (at + 1) text) }

-- the piece at a place of a text
abbrev pub piece_in : List ℕ → ℕ → Piece
piece_in text at = piece_at (take at text) (drop at text)

-- after a piece without a fault
pub record Follows (before : Lexer) (p : Piece) (after : Lexer) : Type 0 where
  pub faultless : fault_at (names_of before.names) before.on_line (length before.list) p ≡ None
  pub list : after.list ≡ before.list ++ option_to_list (token_at (names_of before.names) p)
  pub names : names_of after.names ≡ names_after (names_of before.names) p
  pub on_line : after.on_line ≡ on_line_after before.on_line p

-- the piece is taken, or its fault is answered
abbrev pub IsJudged : {X : Type 0} → Lexer → Piece → Lexer → Result X LexRefusal → Type 0
IsJudged before p after r =
    MatchResult r (λ _. Follows before p after) (λ e. (e ≡ refusals.Memory) ⊎ (fault_at (names_of before.names) before.on_line (length before.list) p ≡ Some e))
