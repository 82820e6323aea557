-- A piece by itself has one kind: that of the front which is taken of it.
use Rattle.std.proofs.Common.{◌≡◌, ℕ, true, false, not, ◌||◌, List, [], ◌∷◌, length, take, codes, Option, Some, None, refl, sym, ap, subst, ◌∙◌, inl, inr, arith}
use Rattle.std.proofs.lemmas.Bool.{cases_Bool, true≢false, false≢true, cond-true, cond-false, or_parts, eqb-true, not-true}
use Rattle.std.proofs.lemmas.List.{take_all}
use Rattle.c_lexer.specs.declared.lexeme.Kind.{Kind}
use Rattle.c_lexer.specs.declared.lexeme.Kind.TheVariants.{White, Comment, OpenComment, Word, Number, Mark, Hash, Other}
use Rattle.c_lexer.specs.declared.lexeme.Lexeme.{Lexeme}
use Rattle.c_lexer.specs.CuttingLaws.{KindsAreApart}
use Rattle.c_lexer.specs.Lexeme.{is_white, is_word_start, is_word_byte, is_short_mark, single_kind, closing_len, lexeme_of}
use Rattle.c_lexer.specs.Piece.{is_decimal, is_mark, is_stray, is_number_sign, ClosesFirst, IsRun, IsByte, IsBlockComment, IsLineComment, IsOpenComment, IsPiece}
use Rattle.c_lexer.proofs.Comments.{closing_some}
use Rattle.c_lexer.proofs.Fronts.{when_closed, when_open, when_line, when_long, when_word, when_lone, white_no_word, decimal_no_start}
use Rattle.c_lexer.proofs.Longest.{closed_len}
use Rattle.c_lexer.proofs.Marks.{listed, short_listed, is_mark_by, mark_by, start_in_word, decimal_in_word}

abbrev pub kind_of : List ℕ → Kind
kind_of bytes = (lexeme_of bytes).kind

lone_kind : (b : ℕ) (kind : Kind) → is_word_byte b ≡ false → single_kind b ≡ kind → kind_of (b ∷ []) ≡ kind
lone_kind b kind other is = ap (λ (l : Lexeme). l.kind) (when_lone b other) ∙ is

white_kind : (bytes : List ℕ) → IsByte is_white bytes → kind_of bytes ≡ White
white_kind [] is = absurd is
white_kind (b ∷ []) is = lone_kind b White (white_no_word b is) (cond-true (is_white b) White _ is)
white_kind (b ∷ c ∷ cs) is = absurd is

hash_kind : (bytes : List ℕ) → IsByte is_number_sign bytes → kind_of bytes ≡ Hash
hash_kind [] is = absurd is
hash_kind (b ∷ []) is = subst (λ (x : ℕ). kind_of (x ∷ []) ≡ Hash) (sym (eqb-true b 35 is)) (lone_kind 35 Hash refl refl)
hash_kind (b ∷ c ∷ cs) is = absurd is

no_short : (b : ℕ) → is_mark (b ∷ []) ≡ false → is_short_mark b ≡ false
no_short b other =
    elim (cases_Bool (is_short_mark b)) [
      | inl short ↦ absurd (true≢false (sym (short_listed b short) ∙ other))
      | inr long ↦ long
    ]

stray_kind : (bytes : List ℕ) → IsByte is_stray bytes → kind_of bytes ≡ Other
stray_kind [] is = absurd is
stray_kind (b ∷ []) is =
    let last = or_parts (is_white b || is_word_byte b || is_mark (b ∷ [])) (is_number_sign b) (not-true (is_white b || is_word_byte b || is_mark (b ∷ []) || is_number_sign b) is) in
    let third = or_parts (is_white b || is_word_byte b) (is_mark (b ∷ [])) last.0 in
    let first = or_parts (is_white b) (is_word_byte b) third.0 in
    let white = first.0 in
    let short = no_short b third.1 in
    let sign = last.1 in
    lone_kind b Other first.1 (rw (white, short, sign) refl)
stray_kind (b ∷ c ∷ cs) is = absurd is

mark_kind : (bytes : List ℕ) → is_mark_by bytes ≡ true → kind_of bytes ≡ Mark
mark_kind [] is = absurd (false≢true is)
mark_kind (b ∷ []) is =
    let marks = codes "()[]{},;?:=<>+-*&|^~!" in
    let white = not-true (is_white b) (listed (λ x. not (is_white x)) b marks is refl) in
    let word = not-true (is_word_byte b) (listed (λ x. not (is_word_byte x)) b marks is refl) in
    lone_kind b Mark word (rw (white, is) refl)
mark_kind (b ∷ c ∷ []) is = ap (λ (l : Lexeme). l.kind) (when_long b c [] is)
mark_kind (b ∷ c ∷ d ∷ ds) is = absurd (false≢true is)

word_kind : (bytes : List ℕ) → IsRun is_word_start bytes → kind_of bytes ≡ Word
word_kind [] is = absurd is
word_kind (b ∷ bs) is = ap (λ (l : Lexeme). l.kind) (when_word b bs (start_in_word b is.0)) ∙ cond-true (is_word_start b) Word Number is.0

number_kind : (bytes : List ℕ) → IsRun is_decimal bytes → kind_of bytes ≡ Number
number_kind [] is = absurd is
number_kind (b ∷ bs) is = ap (λ (l : Lexeme). l.kind) (when_word b bs (decimal_in_word b is.0)) ∙ cond-false (is_word_start b) Word Number (decimal_no_start b is.0)

block_kind : (bytes : List ℕ) → IsBlockComment bytes → kind_of bytes ≡ Comment
block_kind bytes is =
    let body = is.body in
    let all : take (length body) body ≡ body = take_all (length body) body (omega arith) in
    let ends = closed_len body (length body) is.inner is.ends (omega arith) (subst (λ (xs : List ℕ). ClosesFirst xs is.inner) (sym all) is.closed) in
    ap kind_of is.opens ∙ ap (λ (l : Lexeme). l.kind) (when_closed body (length body) ends)

line_kind : (bytes : List ℕ) → IsLineComment bytes → kind_of bytes ≡ Comment
line_kind bytes is = ap kind_of is.opens ∙ ap (λ (l : Lexeme). l.kind) (when_line is.body)

open_kind : (bytes : List ℕ) → IsOpenComment bytes → kind_of bytes ≡ OpenComment
open_kind bytes is = by (closing_len is.body) refl where
  by : (o : Option ℕ) → closing_len is.body ≡ o → kind_of bytes ≡ OpenComment
  by None e = ap kind_of is.opens ∙ ap (λ (l : Lexeme). l.kind) (when_open is.body e)
  by (Some n) e = let c = closing_some is.body n e in absurd (is.unclosed c.inner c.closed.closes)

pub kind_is : (kind : Kind) (bytes : List ℕ) → IsPiece kind bytes → kind_of bytes ≡ kind
kind_is White bytes is = white_kind bytes is
kind_is Comment bytes (inl is) = block_kind bytes is
kind_is Comment bytes (inr is) = line_kind bytes is
kind_is OpenComment bytes is = open_kind bytes is
kind_is Word bytes is = word_kind bytes is
kind_is Number bytes is = number_kind bytes is
kind_is Mark bytes is = mark_kind bytes (mark_by bytes is)
kind_is Hash bytes is = hash_kind bytes is
kind_is Other bytes is = stray_kind bytes is

pub kinds_are_apart : KindsAreApart
kinds_are_apart bytes kind other is too = sym (kind_is kind bytes is) ∙ kind_is other bytes too
