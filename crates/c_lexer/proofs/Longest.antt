-- The longest piece at the front of a text.
use Rattle.std.proofs.Common.{◌≡◌, ℕ, zero, suc, ◌+◌, ◌≤◌, ◌<◌, Bool, true, false, cond, eqb, ◌&&◌, List, [], ◌∷◌, length, take, Option, Some, None, refl, sym, ap, subst, ◌∙◌, inl, inr, arith}
use Rattle.std.specs.List.{list_all, prefix_len}
use Rattle.std.proofs.lemmas.Bool.{cases_Bool, true≢false, cond_both, false≢true, and_parts, and_from, eqb-true, cases_order, cases_lt}
use Rattle.std.proofs.lemmas.List.{length-take-le, take_all}
use Rattle.std.proofs.lemmas.List.Sums.{prefix_len-le-length}
use Rattle.c_lexer.specs.declared.lexeme.Kind.{Kind}
use Rattle.c_lexer.specs.declared.lexeme.Kind.TheVariants.{White, Comment, OpenComment, Word, Number, Mark, Hash, Other}
use Rattle.c_lexer.specs.declared.lexeme.Lexeme.{Lexeme}
use Rattle.c_lexer.specs.CuttingLaws.{FrontsAreLongest}
use Rattle.c_lexer.specs.Lexeme.{is_white, is_word_start, is_word_byte, is_in_line, is_long_mark, is_short_mark, single_kind, closing_len, lexeme_of}
use Rattle.c_lexer.specs.Piece.{IsRun, is_decimal, is_mark, is_stray, is_number_sign, ClosesAt, ClosesFirst, IsBlockComment, IsLineComment, IsOpenComment, IsByte, IsPiece}
use Rattle.c_lexer.proofs.Comments.{Closing, closing_some, closing_none, closes_in, closes_out}
use Rattle.c_lexer.proofs.Fronts.{Opened, opened, when_closed, when_open, when_line, when_long, when_word, when_lone, when_single, decimal_else}
use Rattle.c_lexer.proofs.Lines.{lexeme_pos}
use Rattle.c_lexer.proofs.Marks.{short_listed, long_listed, mark_by, is_mark_by, start_in_word, decimal_in_word, all_front, front_passes}

-- ---- a piece at the front is no longer than the one that is taken

pub byte_len : (test : ℕ → Bool) (xs : List ℕ) → IsByte test xs → length xs ≡ 1
byte_len test [] is = absurd is
byte_len test (b ∷ []) is = omega arith
byte_len test (b ∷ c ∷ cs) is = absurd is

some_len : (rest : List ℕ) → 0 < length rest → 1 ≤ (lexeme_of rest).len
some_len [] some = absurd (omega (arith, some))
some_len (b ∷ bs) some = lexeme_pos b bs

reach_byte : (test : ℕ → Bool) (n : ℕ) (rest : List ℕ) → 0 < n → n ≤ length rest → IsByte test (take n rest) → n ≤ (lexeme_of rest).len
reach_byte test n rest some fits is =
    omega (arith, byte_len test (take n rest) is, length-take-le n rest fits, some_len rest (omega (arith, some, fits)))

reach_mark : (n : ℕ) (rest : List ℕ) → n ≤ length rest → is_mark_by (take n rest) ≡ true → n ≤ (lexeme_of rest).len
reach_mark zero rest fits is = omega arith
reach_mark (suc n) [] fits is = absurd (omega (arith, fits))
reach_mark (suc zero) (b ∷ bs) fits is = lexeme_pos b bs
reach_mark (suc (suc n)) (b ∷ []) fits is = absurd (omega (arith, fits))
reach_mark (suc (suc zero)) (b ∷ c ∷ cs) fits is = omega (arith, ap (λ (l : Lexeme). l.len) (when_long b c cs is))
reach_mark (suc (suc (suc n))) (b ∷ c ∷ []) fits is = absurd (omega (arith, fits))
reach_mark (suc (suc (suc n))) (b ∷ c ∷ d ∷ ds) fits is = absurd (false≢true is)

reach_run : (begins : ℕ → Bool) → ((b : ℕ) → begins b ≡ true → is_word_byte b ≡ true) → (n : ℕ) (rest : List ℕ) → n ≤ length rest → IsRun begins (take n rest) → n ≤ (lexeme_of rest).len
reach_run begins words zero rest fits is = omega arith
reach_run begins words (suc n) [] fits is = absurd (omega (arith, fits))
reach_run begins words (suc n) (b ∷ bs) fits is =
    let word = words b is.0 in
    omega (arith, ap (λ (l : Lexeme). l.len) (when_word b bs word), all_front is_word_byte (suc n) (b ∷ bs) fits (and_from (is_word_byte b) (list_all is_word_byte (take n bs)) word is.1))

-- the front ends with the first `*/`
pub closed_len : (cs : List ℕ) (k inner : ℕ) → k ≡ inner + 2 → k ≤ length cs → ClosesFirst (take k cs) inner → closing_len cs ≡ Some k
closed_len cs k inner is fits closed = by (closing_len cs) refl where
  there : ClosesAt cs inner
  there = closes_out cs k inner (omega (arith, is)) closed.closes

  same : (n : ℕ) → Closing cs n → n ≡ k
  same n c =
      elim (cases_order c.inner inner) [
        | inl e ↦ omega (arith, c.is, is, e)
        | inr (inl before) ↦ absurd (closed.first c.inner before (closes_in cs k c.inner (omega (arith, is, before)) c.closed.closes))
        | inr (inr after) ↦ absurd (c.closed.first inner after there)
      ]

  by : (o : Option ℕ) → closing_len cs ≡ o → closing_len cs ≡ Some k
  by None e = absurd (closing_none cs e inner there)
  by (Some n) e = e ∙ ap (λ (m : ℕ). Some m) (same n (closing_some cs n e))

reach_block : (n : ℕ) (rest : List ℕ) → n ≤ length rest → IsBlockComment (take n rest) → n ≤ (lexeme_of rest).len
reach_block n rest fits is =
    let o = opened 47 42 n rest is.body is.opens in
    let inside : o.inner ≤ length o.tail = omega (arith, ap length o.whole, o.len, fits) in
    let long : o.inner ≡ is.inner + 2 = omega (arith, is.ends, ap length o.front, length-take-le o.inner o.tail inside) in
    let ends = closed_len o.tail o.inner is.inner long inside (subst (λ (xs : List ℕ). ClosesFirst xs is.inner) o.front is.closed) in
    omega (arith, o.len, ap (λ (l : Lexeme). l.len) (ap lexeme_of o.whole ∙ when_closed o.tail o.inner ends))

reach_line : (n : ℕ) (rest : List ℕ) → n ≤ length rest → IsLineComment (take n rest) → n ≤ (lexeme_of rest).len
reach_line n rest fits is =
    let o = opened 47 47 n rest is.body is.opens in
    let inside : o.inner ≤ length o.tail = omega (arith, ap length o.whole, o.len, fits) in
    let line = all_front is_in_line o.inner o.tail inside (subst (λ (xs : List ℕ). list_all is_in_line xs ≡ true) o.front is.line) in
    let len : (lexeme_of rest).len ≡ 1 + (1 + prefix_len is_in_line o.tail) = ap (λ (l : Lexeme). l.len) (ap lexeme_of o.whole ∙ when_line o.tail) in
    omega (arith, o.len, len, line)

reach_open : (n : ℕ) (rest : List ℕ) → n ≤ length rest → IsOpenComment (take n rest) → n ≤ (lexeme_of rest).len
reach_open n rest fits is = by (closing_len o.tail) refl where
  o : Opened 47 42 n rest is.body
  o = opened 47 42 n rest is.body is.opens

  late : (m : ℕ) → Closing o.tail m → o.inner < m
  late m c =
      elim (cases_lt o.inner m) [
        | inl below ↦ below
        | inr above ↦ absurd (is.unclosed c.inner (subst (λ (xs : List ℕ). ClosesAt xs c.inner) (sym o.front) (closes_in o.tail o.inner c.inner (omega (arith, c.is, above)) c.closed.closes)))
      ]

  by : (x : Option ℕ) → closing_len o.tail ≡ x → n ≤ (lexeme_of rest).len
  by None e = omega (arith, fits, ap length o.whole, ap (λ (l : Lexeme). l.len) (ap lexeme_of o.whole ∙ when_open o.tail e))
  by (Some m) e = omega (arith, o.len, late m (closing_some o.tail m e), ap (λ (l : Lexeme). l.len) (ap lexeme_of o.whole ∙ when_closed o.tail m e))

reaches : (kind : Kind) (n : ℕ) (rest : List ℕ) → 0 < n → n ≤ length rest → IsPiece kind (take n rest) → n ≤ (lexeme_of rest).len
reaches White n rest some fits is = reach_byte is_white n rest some fits is
reaches Comment n rest some fits (inl is) = reach_block n rest fits is
reaches Comment n rest some fits (inr is) = reach_line n rest fits is
reaches OpenComment n rest some fits is = reach_open n rest fits is
reaches Word n rest some fits is = reach_run is_word_start start_in_word n rest fits is
reaches Number n rest some fits is = reach_run is_decimal decimal_in_word n rest fits is
reaches Mark n rest some fits is = reach_mark n rest fits (mark_by (take n rest) is)
reaches Hash n rest some fits is = reach_byte is_number_sign n rest some fits is
reaches Other n rest some fits is = reach_byte is_stray n rest some fits is

-- ---- the front that is taken is a piece

-- a front of the text that is a piece
record Fits (rest : List ℕ) (front : Lexeme) : Type 0 where
  pub within : front.len ≤ length rest
  pub piece : IsPiece front.kind (take front.len rest)

fits_block : (cs : List ℕ) → Fits (47 ∷ 42 ∷ cs) (lexeme_of (47 ∷ 42 ∷ cs))
fits_block cs = by (closing_len cs) refl where
  closed : (n : ℕ) → Closing cs n → IsBlockComment (take (n + 2) (47 ∷ 42 ∷ cs))
  closed n c =
      let two : n + 2 ≡ suc (suc n) = omega arith in
      record {
        body = take n cs;
        opens = rw two refl;
        inner = c.inner;
        closed = record { closes = closes_in cs n c.inner (omega (arith, c.is)) c.closed.closes; first = λ m below closes. c.closed.first m below (closes_out cs n m (omega (arith, c.is, below)) closes) };
        ends = length-take-le n cs c.within ∙ c.is;
      }

  by : (o : Option ℕ) → closing_len cs ≡ o → Fits (47 ∷ 42 ∷ cs) (lexeme_of (47 ∷ 42 ∷ cs))
  by (Some n) e =
      let c = closing_some cs n e in
      subst (Fits (47 ∷ 42 ∷ cs)) (sym (when_closed cs n e)) (record { within = omega (arith, c.within); piece = inl (closed n c) })
  by None e =
      let all = take_all (length (47 ∷ 42 ∷ cs)) (47 ∷ 42 ∷ cs) (omega arith) in
      subst (Fits (47 ∷ 42 ∷ cs)) (sym (when_open cs e)) (record { within = omega arith; piece = record { body = cs; opens = all; unclosed = closing_none cs e } })

fits_line : (cs : List ℕ) → Fits (47 ∷ 47 ∷ cs) (lexeme_of (47 ∷ 47 ∷ cs))
fits_line cs =
    let n = prefix_len is_in_line cs in
    let two : 1 + (1 + n) ≡ suc (suc n) = omega arith in
    subst (Fits (47 ∷ 47 ∷ cs)) (sym (when_line cs)) (record {
      within = omega (arith, prefix_len-le-length is_in_line cs);
      piece = inr (record { body = take n cs; opens = rw two refl; line = front_passes is_in_line cs });
    })

-- a word or a number
fits_run : (b : ℕ) (bs : List ℕ) → is_word_byte b ≡ true → Fits (b ∷ bs) (lexeme_of (b ∷ bs))
fits_run b bs word =
    let n = prefix_len is_word_byte bs in
    let len : prefix_len is_word_byte (b ∷ bs) ≡ suc n = rw word (omega arith) in
    let run : (kind : Kind) → IsPiece kind (b ∷ take n bs) → Fits (b ∷ bs) (record { kind = kind; len = suc n }) = λ kind is. record { within = omega (arith, prefix_len-le-length is_word_byte bs); piece = is } in
    let more = front_passes is_word_byte bs in
    subst (Fits (b ∷ bs)) (sym (when_word b bs word ∙ ap (λ (m : ℕ). record { kind = cond (is_word_start b) Word Number; len = m }) len))
    (cond_both (is_word_start b) Word Number (λ (kind : Kind). Fits (b ∷ bs) (record { kind = kind; len = suc n })) (λ start. run Word (start, more)) (λ other. run Number (decimal_else b word other, more)))

no_mark : (b : ℕ) → is_short_mark b ≡ false → is_mark (b ∷ []) ≡ false
no_mark b short =
    elim (cases_Bool (is_mark (b ∷ []))) [
      | inl mark ↦ absurd (true≢false (sym (mark_by (b ∷ []) mark) ∙ short))
      | inr other ↦ other
    ]

single_piece : (b : ℕ) → is_word_byte b ≡ false → IsPiece (single_kind b) (b ∷ [])
single_piece b word =
    let P : Kind → Type 0 = λ kind. IsPiece kind (b ∷ []) in
    cond_both (is_white b) White _ P (λ white. white) (λ white.
    cond_both (is_short_mark b) Mark _ P (λ short. short_listed b short) (λ short.
    cond_both (eqb b 35) Hash Other P (λ sign. sign) (λ sign. let none = no_mark b short in rw (white, word, none, sign) refl)))

fits_single : (b : ℕ) (bs : List ℕ) → is_word_byte b ≡ false → Fits (b ∷ bs) (record { kind = single_kind b; len = 1 })
fits_single b bs word = record { within = omega arith; piece = single_piece b word }

-- by the first two bytes
fits_two : (b c : ℕ) (cs : List ℕ) → is_word_byte b ≡ false → Fits (b ∷ c ∷ cs) (lexeme_of (b ∷ c ∷ cs))
fits_two b c cs word =
    let P : ℕ → ℕ → Type 0 = λ x y. Fits (x ∷ y ∷ cs) (lexeme_of (x ∷ y ∷ cs)) in
    elim (cases_Bool (eqb b 47 && eqb c 42)) [
      | inl block ↦ let both = and_parts (eqb b 47) (eqb c 42) block in subst (λ (x : ℕ). P x c) (sym (eqb-true b 47 both.0)) (subst (P 47) (sym (eqb-true c 42 both.1)) (fits_block cs))
      | inr no_block ↦ elim (cases_Bool (eqb b 47 && eqb c 47)) [
        | inl line ↦ let both = and_parts (eqb b 47) (eqb c 47) line in subst (λ (x : ℕ). P x c) (sym (eqb-true b 47 both.0)) (subst (P 47) (sym (eqb-true c 47 both.1)) (fits_line cs))
        | inr no_line ↦ elim (cases_Bool (is_long_mark b c)) [
          | inl long ↦ subst (Fits (b ∷ c ∷ cs)) (sym (when_long b c cs long)) (record { within = omega arith; piece = long_listed b c long })
          | inr short ↦ subst (Fits (b ∷ c ∷ cs)) (sym (when_single b c cs no_block no_line short word)) (fits_single b (c ∷ cs) word)
        ]
      ]
    ]

fits : (rest : List ℕ) → 0 < length rest → Fits rest (lexeme_of rest)
fits [] some = absurd (omega (arith, some))
fits (b ∷ bs) some = elim (cases_Bool (is_word_byte b)) [ inl word ↦ fits_run b bs word | inr other ↦ by bs other ] where
  by : (bs : List ℕ) → is_word_byte b ≡ false → Fits (b ∷ bs) (lexeme_of (b ∷ bs))
  by [] other = subst (Fits (b ∷ [])) (sym (when_lone b other)) (fits_single b [] other)
  by (c ∷ cs) other = fits_two b c cs other

pub fronts_are_longest : FrontsAreLongest
fronts_are_longest rest some =
    let front = fits rest some in
    record { within = front.within; piece = front.piece; longest = λ n kind beyond inside is. omega (arith, reaches kind n rest (omega (arith, beyond)) inside is, beyond) }
