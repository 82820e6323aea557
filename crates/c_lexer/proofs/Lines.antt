-- The pieces of a line, one after the other.
use Rattle.std.proofs.Common.{◌≡◌, ℕ, zero, suc, ◌+◌, ◌≤◌, ◌<◌, Bool, true, false, cond, List, [], ◌∷◌, ◌++◌, length, take, drop, Option, Some, None, refl, sym, ap, subst, ◌∙◌, inl, inr, arith, eqb, ◌&&◌, ◌||◌}
use Rattle.std.specs.List.{sum_by, prefix_len}
use Rattle.std.specs.Option.{option_map_or}
use Rattle.std.proofs.lemmas.Bool.{cases_Bool, cond-true, cond-false, cond_both, and_parts, eqb-true}
use Rattle.std.proofs.lemmas.List.{length-drop, length-take-le, drop-drop, append_assoc, append-nil}
use Rattle.std.proofs.lemmas.List.Sums.{sum_by-cons}
use Rattle.std.proofs.lemmas.Option.{none-some, same_Some}
use Rattle.c_lexer.specs.declared.lexeme.Kind.{Kind}
use Rattle.c_lexer.specs.declared.lexeme.Lexeme.{Lexeme}
use Rattle.c_lexer.specs.Directive.{is_blank, is_open, next_in_line, line_pieces, parts_after, line_parts, line_bytes}
use Rattle.c_lexer.specs.Expression.{Part}
use Rattle.c_lexer.specs.Lexeme.{is_word_byte, is_in_line, is_long_mark, block_comment_of, lexeme_of, comment_of, closing_len, byte_after}

-- ---- each piece has a byte or more

block_pos : (b : ℕ) (bs : List ℕ) → 0 < (block_comment_of (b ∷ bs)).len
unfolding block_comment_of
block_pos b bs = by (closing_len (drop 2 (b ∷ bs))) where
  by : (o : Option ℕ) → 0 < (option_map_or (λ n. comment_of (n + 2)) o (record { kind = Rattle.c_lexer.specs.declared.lexeme.Kind.TheVariants.OpenComment; len = length (b ∷ bs) })).len
  by (Some n) = omega arith
  by None = omega arith

prefix_pos : (p : ℕ → Bool) (b : ℕ) (bs : List ℕ) → p b ≡ true → 0 < prefix_len p (b ∷ bs)
prefix_pos p b bs e = rw e (omega arith)

line_pos : (b : ℕ) (bs : List ℕ) → b ≡ 47 → 0 < prefix_len is_in_line (b ∷ bs)
line_pos b bs e = prefix_pos is_in_line b bs (ap is_in_line e)

pub lexeme_pos : (b : ℕ) (bs : List ℕ) → 0 < (lexeme_of (b ∷ bs)).len
unfolding lexeme_of
lexeme_pos b bs =
    let second = byte_after (b ∷ bs) 1 in
    let P : Lexeme → Type 0 = λ l. 0 < l.len in
    cond_both (eqb b 47 && eqb second 42) _ _ P (λ e. block_pos b bs) (λ e.
    cond_both (eqb b 47 && eqb second 47) _ _ P (λ e. line_pos b bs (eqb-true b 47 (and_parts (eqb b 47) (eqb second 47) e).0)) (λ e.
    cond_both (is_long_mark b second) _ _ P (λ e. omega arith) (λ e.
    cond_both (is_word_byte b) _ _ P (λ e. prefix_pos is_word_byte b bs e) (λ e. omega arith))))

pub next_pos : (rest : List ℕ) (l : Lexeme) → next_in_line rest ≡ Some l → 0 < l.len
unfolding next_in_line
next_pos [] l e = absurd (none-some l e)
next_pos (b ∷ bs) l e =
    let stops = eqb (length (b ∷ bs)) 0 || eqb b 10 in
    elim (cases_Bool stops) [
      | inl here ↦ absurd (none-some l (sym (cond-true stops None (cond (is_open (lexeme_of (b ∷ bs)).kind) None (Some (lexeme_of (b ∷ bs)))) here) ∙ e))
      | inr beyond ↦
          let e' = sym (cond-false stops None (cond (is_open (lexeme_of (b ∷ bs)).kind) None (Some (lexeme_of (b ∷ bs)))) beyond) ∙ e in
          elim (cases_Bool (is_open (lexeme_of (b ∷ bs)).kind)) [
            | inl unended ↦ absurd (none-some l (sym (cond-true (is_open (lexeme_of (b ∷ bs)).kind) None (Some (lexeme_of (b ∷ bs))) unended) ∙ e'))
            | inr ended ↦
                let same : lexeme_of (b ∷ bs) ≡ l = same_Some (lexeme_of (b ∷ bs)) l (sym (cond-false (is_open (lexeme_of (b ∷ bs)).kind) None (Some (lexeme_of (b ∷ bs))) ended) ∙ e') in
                subst (λ (x : Lexeme). 0 < x.len) same (lexeme_pos b bs)
          ]
    ]

-- ---- the number of pieces does not matter where it is large enough

line_fuel : (n m : ℕ) (rest : List ℕ) → length rest ≤ n → length rest ≤ m → line_pieces n rest ≡ line_pieces m rest
unfolding line_pieces next_in_line
line_fuel zero zero rest a b = refl
line_fuel zero (suc m) [] a b = refl
line_fuel zero (suc m) (c ∷ cs) a b = absurd (omega arith)
line_fuel (suc n) zero [] a b = refl
line_fuel (suc n) zero (c ∷ cs) a b = absurd (omega arith)
line_fuel (suc n) (suc m) rest a b = by (λ r. line_fuel n m r) (next_in_line rest) refl where
  by : ((r : List ℕ) → length r ≤ n → length r ≤ m → line_pieces n r ≡ line_pieces m r) → (o : Option Lexeme) → next_in_line rest ≡ o
      → option_map_or (λ (l : Lexeme). (l.kind, take l.len rest) ∷ line_pieces n (drop l.len rest)) o []
      ≡ option_map_or (λ (l : Lexeme). (l.kind, take l.len rest) ∷ line_pieces m (drop l.len rest)) o []
  by same None e = refl
  by same (Some l) e =
      let some = next_pos rest l e in
      let shorter = length-drop l.len rest in
      ap (λ (ps : List (Kind × List ℕ)). (l.kind, take l.len rest) ∷ ps) (same (drop l.len rest) (omega (arith, some, shorter, a)) (omega (arith, some, shorter, b)))

-- the pieces of a rest of a line
unfoldable pub pieces_in : List ℕ → List (Kind × List ℕ)
pieces_in rest = line_pieces (length rest) rest

pieces_none : (rest : List ℕ) → next_in_line rest ≡ None → pieces_in rest ≡ []
unfolding pieces_in line_pieces
pieces_none [] e = refl
pieces_none (b ∷ bs) e = rw e refl

pieces_some : (rest : List ℕ) (l : Lexeme) → next_in_line rest ≡ Some l → pieces_in rest ≡ (l.kind, take l.len rest) ∷ pieces_in (drop l.len rest)
unfolding pieces_in line_pieces next_in_line
pieces_some [] l e = absurd (none-some l e)
pieces_some (b ∷ bs) l e =
    let rest = b ∷ bs in
    let some = next_pos rest l e in
    let shorter = length-drop l.len rest in
    rw e (ap (λ (ps : List (Kind × List ℕ)). (l.kind, take l.len rest) ∷ ps) (line_fuel (length bs) (length (drop l.len rest)) (drop l.len rest) (omega (arith, some, shorter)) (omega arith)))

sum_more : (rest : List ℕ) (l : Lexeme) → next_in_line rest ≡ Some l → l.len ≤ length rest
    → sum_by (λ (p : Kind × List ℕ). length p.1) (pieces_in rest) ≡ l.len + sum_by (λ (p : Kind × List ℕ). length p.1) (pieces_in (drop l.len rest))
sum_more rest l e within =
    ap (sum_by (λ (p : Kind × List ℕ). length p.1)) (pieces_some rest l e) ∙ sum_by-cons (λ (p : Kind × List ℕ). length p.1) (l.kind, take l.len rest) (pieces_in (drop l.len rest))
    ∙ ap (λ n. n + sum_by (λ (p : Kind × List ℕ). length p.1) (pieces_in (drop l.len rest))) (length-take-le l.len rest within)

-- ---- a line that is read up to a place

-- these parts and this many bytes of the rest of a line were read
pub record IsReadTo (text : List ℕ) (found : List Part) (spaced : Bool) (read : ℕ) : Type 0 where
  pub parts : line_parts text ≡ found ++ parts_after spaced (pieces_in (drop read text))
  pub len : line_bytes text ≡ read + sum_by (λ p. length p.1) (pieces_in (drop read text))
  pub within : read ≤ length text

pub reads_nothing : (text : List ℕ) → IsReadTo text [] false 0
unfolding pieces_in
reads_nothing text = record { parts = refl; len = omega arith; within = omega arith }

pub reads_blank : (text : List ℕ) (parts : List Part) (spaced : Bool) (len : ℕ) (l : Lexeme) → IsReadTo text parts spaced len → next_in_line (drop len text) ≡ Some l → l.len ≤ length (drop len text)
    → is_blank l.kind ≡ true → IsReadTo text parts true (len + l.len)
reads_blank text parts spaced len l before e within blank =
    let pieces = pieces_some (drop len text) l e in
    let all = before.parts in
    let bytes = before.len in
    record {
      parts = all ∙ rw (pieces, drop-drop l.len len text, blank) refl;
      len = bytes ∙ ap (λ n. len + n) (sum_more (drop len text) l e within) ∙ rw (drop-drop l.len len text) (omega arith);
      within = omega (arith, within, length-drop len text, before.within);
    }

pub reads_part : (text : List ℕ) (parts : List Part) (spaced : Bool) (len : ℕ) (l : Lexeme) → IsReadTo text parts spaced len → next_in_line (drop len text) ≡ Some l → l.len ≤ length (drop len text)
    → is_blank l.kind ≡ false → IsReadTo text (parts ++ record { kind = l.kind; bytes = take l.len (drop len text); spaced = spaced } ∷ []) false (len + l.len)
reads_part text parts spaced len l before e within blank =
    let pieces = pieces_some (drop len text) l e in
    let all = before.parts in
    let bytes = before.len in
    record {
      parts = all ∙ rw (pieces, drop-drop l.len len text, blank) (sym (append_assoc parts (record { kind = l.kind; bytes = take l.len (drop len text); spaced = spaced } ∷ []) (parts_after false (pieces_in (drop (len + l.len) text)))));
      len = bytes ∙ ap (λ n. len + n) (sum_more (drop len text) l e within) ∙ rw (drop-drop l.len len text) (omega arith);
      within = omega (arith, within, length-drop len text, before.within);
    }

pub reads_all : (text : List ℕ) (parts : List Part) (spaced : Bool) (len : ℕ) → IsReadTo text parts spaced len → next_in_line (drop len text) ≡ None → (line_parts text ≡ parts) × (line_bytes text ≡ len)
reads_all text parts spaced len before e =
    let pieces = pieces_none (drop len text) e in
    (before.parts ∙ rw pieces (append-nil parts), before.len ∙ rw pieces (omega arith))
