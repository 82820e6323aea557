-- The pieces of the line of a directive.
use Rattle.std.proofs.Common.{◌≡◌, ℕ, zero, suc, ◌≤◌, ◌<◌, Bool, true, false, cond, eqb, ◌||◌, List, [], ◌∷◌, length, take, drop, get_or, Option, Some, None, refl, sym, ap, subst, ◌∙◌, inl, inr, arith}
use Rattle.std.specs.Option.{option_map_or}
use Rattle.std.proofs.lemmas.Bool.{cases_Bool, true≢false, cond-true, cond-false, or_cases, or_parts, eqb-true, eqb-false}
use Rattle.std.proofs.lemmas.List.{length-take-le, length-drop, take_all}
use Rattle.std.proofs.lemmas.Option.{none-some, same_Some}
use Rattle.c_lexer.specs.declared.lexeme.Kind.{Kind}
use Rattle.c_lexer.specs.declared.lexeme.Kind.TheVariants.{White, Comment, OpenComment, Word, Number, Mark, Hash, Other}
use Rattle.c_lexer.specs.declared.lexeme.Lexeme.{Lexeme}
use Rattle.c_lexer.specs.CuttingLaws.{EndsLine, IsLineOf, LinesAreLongest}
use Rattle.c_lexer.specs.Directive.{is_open, next_in_line, line_pieces}
use Rattle.c_lexer.specs.Lexeme.{closing_len, lexeme_of}
use Rattle.c_lexer.specs.Piece.{IsOpenComment, IsPiece, IsLongest}
use Rattle.c_lexer.proofs.Fronts.{Opened, opened, when_closed, when_open}
use Rattle.c_lexer.proofs.KindsApart.{kind_is, kind_of}
use Rattle.c_lexer.proofs.Lines.{next_pos}
use Rattle.c_lexer.proofs.Longest.{fronts_are_longest}

kind_open : (kind : Kind) → is_open kind ≡ true → kind ≡ OpenComment
kind_open OpenComment e = refl
kind_open White e = cc
kind_open Comment e = cc
kind_open Word e = cc
kind_open Number e = cc
kind_open Mark e = cc
kind_open Hash e = cc
kind_open Other e = cc

-- a `/*` without its `*/` reaches to the end of the text
pub open_whole : (rest : List ℕ) → 0 < length rest → kind_of rest ≡ OpenComment → IsOpenComment rest
open_whole rest some unended = by (closing_len o.tail) refl where
  is : IsOpenComment (take (lexeme_of rest).len rest)
  is = subst (λ (kind : Kind). IsPiece kind (take (lexeme_of rest).len rest)) unended (fronts_are_longest rest some).piece

  o : Opened 47 42 (lexeme_of rest).len rest is.body
  o = opened 47 42 (lexeme_of rest).len rest is.body is.opens

  by : (x : Option ℕ) → closing_len o.tail ≡ x → IsOpenComment rest
  by (Some n) e = let wrong : Comment ≡ OpenComment = sym (ap (λ (l : Lexeme). l.kind) (ap lexeme_of o.whole ∙ when_closed o.tail n e)) ∙ unended in cc
  by None e =
      let len : (lexeme_of rest).len ≡ length rest = ap (λ (l : Lexeme). l.len) (ap lexeme_of o.whole ∙ when_open o.tail e) ∙ ap length (sym o.whole) in
      subst IsOpenComment (take_all (lexeme_of rest).len rest (omega (arith, len))) is

-- ---- what stands next

abbrev stops : List ℕ → Bool
stops rest = eqb (length rest) 0 || eqb (get_or rest 0 0) 10

abbrev unless_open : List ℕ → Option Lexeme
unless_open rest = cond (is_open (kind_of rest)) None (Some (lexeme_of rest))

ends : (rest : List ℕ) → next_in_line rest ≡ None → EndsLine rest
unfolding next_in_line
ends rest e =
    elim (cases_Bool (stops rest)) [
      | inl here ↦ elim (or_cases (eqb (length rest) 0) (eqb (get_or rest 0 0) 10) here) [
        | inl empty ↦ inl (eqb-true (length rest) 0 empty)
        | inr feed ↦ inr (inl (eqb-true (get_or rest 0 0) 10 feed))
      ]
      | inr beyond ↦
          let filled = eqb-false (length rest) 0 (or_parts (eqb (length rest) 0) (eqb (get_or rest 0 0) 10) beyond).0 in
          let last = sym (cond-false (stops rest) None (unless_open rest) beyond) ∙ e in
          elim (cases_Bool (is_open (kind_of rest))) [
            | inl unended ↦ inr (inr (open_whole rest (omega (arith, filled)) (kind_open (kind_of rest) unended)))
            | inr ended ↦ absurd (none-some (lexeme_of rest) (sym last ∙ cond-false (is_open (kind_of rest)) None (Some (lexeme_of rest)) ended))
          ]
    ]

-- the piece is the longest, and the line goes on
record GoesOn (rest : List ℕ) (l : Lexeme) : Type 0 where
  pub beyond : stops rest ≡ false
  pub ended : is_open (kind_of rest) ≡ false
  pub is : lexeme_of rest ≡ l

goes_on : (rest : List ℕ) (l : Lexeme) → next_in_line rest ≡ Some l → GoesOn rest l
unfolding next_in_line
goes_on rest l e =
    elim (cases_Bool (stops rest)) [
      | inl here ↦ absurd (none-some l (sym (cond-true (stops rest) None (unless_open rest) here) ∙ e))
      | inr beyond ↦
          let last = sym (cond-false (stops rest) None (unless_open rest) beyond) ∙ e in
          elim (cases_Bool (is_open (kind_of rest))) [
            | inl unended ↦ absurd (none-some l (sym (cond-true (is_open (kind_of rest)) None (Some (lexeme_of rest)) unended) ∙ last))
            | inr ended ↦ record { beyond = beyond; ended = ended; is = same_Some (lexeme_of rest) l (sym (cond-false (is_open (kind_of rest)) None (Some (lexeme_of rest)) ended) ∙ last) }
          ]
    ]

no_end : (rest : List ℕ) (l : Lexeme) → GoesOn rest l → EndsLine rest → ⊥
no_end rest l goes (inl empty) = eqb-false (length rest) 0 (or_parts (eqb (length rest) 0) (eqb (get_or rest 0 0) 10) goes.beyond).0 empty
no_end rest l goes (inr (inl feed)) = eqb-false (get_or rest 0 0) 10 (or_parts (eqb (length rest) 0) (eqb (get_or rest 0 0) 10) goes.beyond).1 feed
no_end rest l goes (inr (inr unended)) = true≢false (sym (ap is_open (kind_is OpenComment rest unended)) ∙ goes.ended)

-- ---- the pieces, at most this many

line_from : (n : ℕ) (rest : List ℕ) → length rest ≤ n → IsLineOf rest (line_pieces n rest)
unfolding line_pieces
line_from zero rest fits = inl (omega (arith, fits))
line_from (suc n) rest fits = by (λ r. line_from n r) (next_in_line rest) refl where
  by : ((r : List ℕ) → length r ≤ n → IsLineOf r (line_pieces n r)) → (o : Option Lexeme) → next_in_line rest ≡ o
      → IsLineOf rest (option_map_or (λ (l : Lexeme). (l.kind, take l.len rest) ∷ line_pieces n (drop l.len rest)) o [])
  by more None e = ends rest e
  by more (Some l) e =
      let goes = goes_on rest l e in
      let filled = eqb-false (length rest) 0 (or_parts (eqb (length rest) 0) (eqb (get_or rest 0 0) 10) goes.beyond).0 in
      let front : IsLongest rest l = subst (IsLongest rest) goes.is (fronts_are_longest rest (omega (arith, filled))) in
      let len : length (take l.len rest) ≡ l.len = length-take-le l.len rest front.within in
      let some = next_pos rest l e in
      let rest_of = more (drop l.len rest) (omega (arith, length-drop l.len rest, some, fits, front.within)) in
      rw len (no_end rest l goes, front, refl, rest_of)

pub lines_are_longest : LinesAreLongest
lines_are_longest rest = line_from (length rest) rest (omega arith)
