-- What stands at the front of a text, by its first bytes.
use Rattle.std.proofs.Common.{◌≡◌, ℕ, zero, suc, ◌+◌, true, false, not, cond, eqb, ◌&&◌, List, [], ◌∷◌, length, take, Some, None, refl, sym, ◌∙◌, inl, inr, arith}
use Rattle.std.specs.List.{prefix_len}
use Rattle.std.proofs.lemmas.Bool.{cases_Bool, true≢false, and_parts, and_right, not-true}
use Rattle.std.proofs.lemmas.Bool.Decides.{nat_tests}
use Rattle.c_lexer.specs.declared.lexeme.Kind.TheVariants.{OpenComment, Word, Number, Mark}
use Rattle.c_lexer.specs.Lexeme.{is_white, is_word_start, is_word_byte, is_in_line, is_long_mark, single_kind, comment_of, block_comment_of, closing_len, lexeme_of}
use Rattle.c_lexer.specs.Piece.{is_decimal}
use Rattle.c_lexer.proofs.Marks.{long_first, no_long, no_slash, long_no_slash}

-- a front of two bytes and more
pub record Opened (x y n : ℕ) (rest body : List ℕ) : Type 0 where
  pub inner : ℕ
  pub tail : List ℕ
  pub len : n ≡ inner + 2
  pub whole : rest ≡ x ∷ y ∷ tail
  pub front : body ≡ take inner tail

pub opened : (x y n : ℕ) (rest body : List ℕ) → take n rest ≡ x ∷ y ∷ body → Opened x y n rest body
opened x y zero rest body e = cc
opened x y (suc n) [] body e = cc
opened x y (suc zero) (b ∷ bs) body e = cc
opened x y (suc (suc n)) (b ∷ []) body e = cc
opened x y (suc (suc n)) (b ∷ c ∷ cs) body e = record { inner = n; tail = cs; len = omega arith; whole = cc; front = cc }

-- ---- comments

pub when_block : (cs : List ℕ) → lexeme_of (47 ∷ 42 ∷ cs) ≡ block_comment_of (47 ∷ 42 ∷ cs)
unfolding lexeme_of
when_block cs = refl

pub when_closed : (cs : List ℕ) (n : ℕ) → closing_len cs ≡ Some n → lexeme_of (47 ∷ 42 ∷ cs) ≡ comment_of (n + 2)
unfolding block_comment_of
when_closed cs n e = when_block cs ∙ rw e refl

pub when_open : (cs : List ℕ) → closing_len cs ≡ None → lexeme_of (47 ∷ 42 ∷ cs) ≡ record { kind = OpenComment; len = length (47 ∷ 42 ∷ cs) }
unfolding block_comment_of
when_open cs e = when_block cs ∙ rw e refl

pub when_line : (cs : List ℕ) → lexeme_of (47 ∷ 47 ∷ cs) ≡ comment_of (prefix_len is_in_line (47 ∷ 47 ∷ cs))
unfolding lexeme_of
when_line cs = refl

-- ---- marks, words and numbers

pub when_long : (b c : ℕ) (cs : List ℕ) → is_long_mark b c ≡ true → lexeme_of (b ∷ c ∷ cs) ≡ record { kind = Mark; len = 2 }
unfolding lexeme_of
when_long b c cs long = let other = long_no_slash b c long in rw (other, long) refl

word_no_slash : (b : ℕ) → is_word_byte b ≡ true → eqb b 47 ≡ false
word_no_slash b word = no_slash is_word_byte b word refl

pub when_word : (b : ℕ) (bs : List ℕ) → is_word_byte b ≡ true → lexeme_of (b ∷ bs) ≡ record { kind = cond (is_word_start b) Word Number; len = prefix_len is_word_byte (b ∷ bs) }
unfolding lexeme_of
when_word b [] word = let other = word_no_slash b word in let short = no_long b 0 word in rw (other, short, word) refl
when_word b (c ∷ cs) word = let other = word_no_slash b word in let short = no_long b c word in rw (other, short, word) refl

-- ---- a single byte

no_long_end : (b : ℕ) → is_long_mark b 0 ≡ false
no_long_end b =
    elim (cases_Bool (is_long_mark b 0)) [
      | inl long ↦ absurd (true≢false (sym (and_parts (eqb b 0) _ long).0 ∙ not-true (eqb b 0) (long_first (λ x. not (eqb x 0)) b 0 long refl refl)))
      | inr short ↦ short
    ]

pub when_lone : (b : ℕ) → is_word_byte b ≡ false → lexeme_of (b ∷ []) ≡ record { kind = single_kind b; len = 1 }
unfolding lexeme_of
when_lone b other =
    let none = and_right (eqb b 47) false refl in
    let short = no_long_end b in
    rw (none, short, other) refl

pub white_no_word : (b : ℕ) → is_white b ≡ true → is_word_byte b ≡ false
white_no_word b white = grind (arith, nat_tests)

pub decimal_no_start : (b : ℕ) → is_decimal b ≡ true → is_word_start b ≡ false
decimal_no_start b decimal = grind (arith, nat_tests)

pub decimal_else : (b : ℕ) → is_word_byte b ≡ true → is_word_start b ≡ false → is_decimal b ≡ true
decimal_else b word other = grind (arith, nat_tests)

pub when_single : (b c : ℕ) (cs : List ℕ) → (eqb b 47 && eqb c 42) ≡ false → (eqb b 47 && eqb c 47) ≡ false → is_long_mark b c ≡ false → is_word_byte b ≡ false
    → lexeme_of (b ∷ c ∷ cs) ≡ record { kind = single_kind b; len = 1 }
unfolding lexeme_of
when_single b c cs no_block no_line short other = rw (no_block, no_line, short, other) refl
