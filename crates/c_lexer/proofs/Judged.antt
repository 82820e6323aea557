-- A piece that is judged by itself.
use Rattle.std.proofs.Common.{◌≡◌, ℕ, ◌+◌, ◌≤◌, true, false, ◌⊎◌, List, length, take, drop, Some, Result, Ok, Err, MatchResult, IfOk, refl, sym, ap, ◌∙◌, inl, inr, arith}
use Rattle.std.proofs.lemmas.Bool.Decides.{nat_tests}
use Rattle.std.proofs.lemmas.List.{length-take-le, length-drop, drop-drop}
use Rattle.sat_base.specs.Position.{position_after}
use Rattle.sat_base.specs.declared.position.Pos.{Pos}
use Rattle.c_lexer.specs.declared.lexeme.Kind.{Kind}
use Rattle.c_lexer.specs.declared.lexeme.Kind.TheVariants.{White, Comment, OpenComment, Word, Number, Mark, Hash, Other}
use Rattle.c_lexer.specs.declared.lexeme.Lexeme.{Lexeme}
use Rattle.c_lexer.specs.declared.lexer.Lexer.{Lexer}
use Rattle.c_lexer.specs.declared.token.LexRefusal.{LexRefusal}
use Rattle.c_lexer.specs.declared.token.LexRefusal.TheVariants as refusals
use Rattle.c_lexer.specs.declared.token.TokenKind.{TokenKind}
use Rattle.c_lexer.specs.Judging.{HasPushed, IsJudged, plain_piece, directive_piece, piece_in}
use Rattle.c_lexer.specs.Lexeme.{is_hash, lexeme_of}
use Rattle.c_lexer.specs.Text.{piece_at, too_many, word_kind}
use Rattle.c_lexer.specs.Views.{names_of}

-- a word is pushed
pub judged_word : {X : Type 0} (before after : Lexer) (text : List ℕ) (at len : ℕ) (kind : TokenKind) (pos : Pos) (r : Result X LexRefusal)
    → kind ≡ word_kind (names_of before.names) (take len (drop at text)) → at + len ≤ length text → pos ≡ position_after (take at text)
    → MatchResult r (λ _. HasPushed kind at len pos before after) (λ e. (e ≡ refusals.Memory) ⊎ (too_many (length before.list) pos ≡ Some e))
    → IsJudged before (plain_piece text at (record { kind = Word; len = len })) after r
judged_word before after text at len kind pos (Err e) is within place (inl memory) = inl memory
judged_word before after text at len kind pos (Err e) is within place (inr many) = inr (ap (too_many (length before.list)) (sym place) ∙ many)
judged_word before after text at len kind pos (Ok x) is within place pushed =
    let before_len = length-take-le at text (omega arith) in
    let bytes_len = length-take-le len (drop at text) (omega (arith, length-drop at text)) in
    let few = pushed.few in
    record {
      faultless = grind (arith, nat_tests);
      list = pushed.list ∙ rw (before_len, bytes_len, is, place) refl;
      names = ap names_of pushed.names;
      on_line = pushed.on_line;
    }

-- the piece at a place is a directive, or it is not
pub kind_hash : (kind : Kind) → is_hash kind ≡ true → kind ≡ Hash
kind_hash Hash e = refl
kind_hash White e = cc
kind_hash Comment e = cc
kind_hash OpenComment e = cc
kind_hash Word e = cc
kind_hash Number e = cc
kind_hash Mark e = cc
kind_hash Other e = cc

pub hash_piece : (text : List ℕ) (at : ℕ) → is_hash (lexeme_of (drop at text)).kind ≡ true → piece_in text at ≡ directive_piece text at
unfolding piece_at
hash_piece text at e = rw (kind_hash (lexeme_of (drop at text)).kind e, drop-drop 1 at text) refl

pub plain_is : (text : List ℕ) (at : ℕ) → is_hash (lexeme_of (drop at text)).kind ≡ false → piece_in text at ≡ plain_piece text at (lexeme_of (drop at text))
unfolding piece_at
plain_is text at e = rw e refl

pub directive_len : (text : List ℕ) (at bytes : ℕ) (r : Result ℕ LexRefusal) → IfOk r (λ n. n ≡ 1 + bytes) → IfOk r (λ n. at + n ≤ length text) → IfOk r (λ n. n ≡ length (take (1 + bytes) (drop at text)))
directive_len text at bytes (Err e) is within = tt
directive_len text at bytes (Ok n) is within = is ∙ sym (length-take-le (1 + bytes) (drop at text) (omega (arith, length-drop at text, is, within)))

pub plain_at : (text : List ℕ) (at : ℕ) (l : Lexeme) → l ≡ lexeme_of (drop at text) → is_hash l.kind ≡ false → piece_in text at ≡ plain_piece text at l
plain_at text at l is none = plain_is text at (ap (λ (m : Lexeme). is_hash m.kind) (sym is) ∙ none) ∙ ap (plain_piece text at) (sym is)

pub hash_at : (text : List ℕ) (at : ℕ) (l : Lexeme) → l ≡ lexeme_of (drop at text) → is_hash l.kind ≡ true → piece_in text at ≡ directive_piece text at
hash_at text at l is hash = hash_piece text at (ap (λ (m : Lexeme). is_hash m.kind) (sym is) ∙ hash)
