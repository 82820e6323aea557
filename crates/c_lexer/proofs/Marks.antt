-- Bytes of words and of marks.
use Rattle.std.proofs.Common.{◌≡◌, ℕ, zero, suc, ◌+◌, ◌≤◌, Bool, true, false, not, ◌&&◌, eqb, List, [], ◌∷◌, length, take, codes, refl, sym, subst, ◌∙◌, inl, inr, arith}
use Rattle.std.specs.List.{list_any, list_all, prefix_len}
use Rattle.std.specs.Str.{bytes_eq}
use Rattle.std.proofs.lemmas.Bool.{cases_Bool, true≢false, false≢true, cond-true, cond-false, and_parts, and_from, or_cases, or_right, or_left, eqb-true, not-true}
use Rattle.std.proofs.lemmas.Slice.Eq.{bytes_eq-Decides}
use Rattle.c_lexer.specs.Lexeme.{is_word_start, is_word_byte, is_long_mark, is_short_mark}
use Rattle.c_lexer.specs.Piece.{is_decimal, marks, is_mark}

-- ---- what holds of each listed item

pub listed : (test : ℕ → Bool) (b : ℕ) (xs : List ℕ) → list_any (λ x. eqb x b) xs ≡ true → list_all test xs ≡ true → test b ≡ true
listed test b [] found all = absurd (false≢true found)
listed test b (x ∷ xs) found all =
    let both = and_parts (test x) (list_all test xs) all in
    elim (or_cases (eqb x b) (list_any (λ y. eqb y b) xs) found) [
      | inl here ↦ subst (λ (y : ℕ). test y ≡ true) (eqb-true x b here) both.0
      | inr there ↦ listed test b xs there both.1
    ]

listed_text : (test : List ℕ → Bool) (t : List ℕ) (xs : List (List ℕ)) → list_any (λ x. bytes_eq x t) xs ≡ true → list_all test xs ≡ true → test t ≡ true
listed_text test t [] found all = absurd (false≢true found)
listed_text test t (x ∷ xs) found all =
    let both = and_parts (test x) (list_all test xs) all in
    elim (or_cases (bytes_eq x t) (list_any (λ y. bytes_eq y t) xs) found) [
      | inl here ↦ subst (λ (y : List ℕ). test y ≡ true) ((bytes_eq-Decides x t).0 here) both.0
      | inr there ↦ listed_text test t xs there both.1
    ]

-- ---- marks

-- a mark of two bytes begins with one of these bytes
pub long_first : (test : ℕ → Bool) (b c : ℕ) → is_long_mark b c ≡ true → list_all test (codes "=!<>+-*&|^") ≡ true → list_all test (codes "&|+-") ≡ true → test b ≡ true
long_first test b c long all pairs =
    elim (cases_Bool (eqb c 61)) [
      | inl equals ↦ listed test b (codes "=!<>+-*&|^") (sym (cond-true (eqb c 61) (list_any (λ x. eqb x b) (codes "=!<>+-*&|^")) (eqb b c && list_any (λ x. eqb x b) (codes "&|+-")) equals) ∙ long) all
      | inr other ↦
          let both = sym (cond-false (eqb c 61) (list_any (λ x. eqb x b) (codes "=!<>+-*&|^")) (eqb b c && list_any (λ x. eqb x b) (codes "&|+-")) other) ∙ long in
          listed test b (codes "&|+-") (and_parts (eqb b c) (list_any (λ x. eqb x b) (codes "&|+-")) both).1 pairs
    ]

pub short_listed : (b : ℕ) → is_short_mark b ≡ true → is_mark (b ∷ []) ≡ true
short_listed b short = listed (λ x. is_mark (x ∷ [])) b (codes "()[]{},;?:=<>+-*&|^~!") short refl

pub long_listed : (b c : ℕ) → is_long_mark b c ≡ true → is_mark (b ∷ c ∷ []) ≡ true
long_listed b c long =
    elim (cases_Bool (eqb c 61)) [
      | inl equals ↦
          let first = sym (cond-true (eqb c 61) (list_any (λ x. eqb x b) (codes "=!<>+-*&|^")) (eqb b c && list_any (λ x. eqb x b) (codes "&|+-")) equals) ∙ long in
          subst (λ (y : ℕ). is_mark (b ∷ y ∷ []) ≡ true) (sym (eqb-true c 61 equals)) (listed (λ x. is_mark (x ∷ 61 ∷ [])) b (codes "=!<>+-*&|^") first refl)
      | inr other ↦
          let both = and_parts (eqb b c) (list_any (λ x. eqb x b) (codes "&|+-")) (sym (cond-false (eqb c 61) (list_any (λ x. eqb x b) (codes "=!<>+-*&|^")) (eqb b c && list_any (λ x. eqb x b) (codes "&|+-")) other) ∙ long) in
          subst (λ (y : ℕ). is_mark (b ∷ y ∷ []) ≡ true) (eqb-true b c both.0) (listed (λ x. is_mark (x ∷ x ∷ [])) b (codes "&|+-") both.1 refl)
    ]

-- by its length, what a mark is
abbrev pub is_mark_by : List ℕ → Bool
is_mark_by [] = false
is_mark_by (b ∷ []) = is_short_mark b
is_mark_by (b ∷ c ∷ []) = is_long_mark b c
is_mark_by (b ∷ c ∷ d ∷ ds) = false

pub mark_by : (bytes : List ℕ) → is_mark bytes ≡ true → is_mark_by bytes ≡ true
mark_by bytes mark = listed_text is_mark_by bytes marks mark refl

-- ---- bytes of words are in no mark

pub start_in_word : (b : ℕ) → is_word_start b ≡ true → is_word_byte b ≡ true
start_in_word b start = or_right _ (is_word_start b) start

pub decimal_in_word : (b : ℕ) → is_decimal b ≡ true → is_word_byte b ≡ true
decimal_in_word b decimal = or_left (is_decimal b) (is_word_start b) decimal

pub no_long : (b c : ℕ) → is_word_byte b ≡ true → is_long_mark b c ≡ false
no_long b c word =
    elim (cases_Bool (is_long_mark b c)) [
      | inl long ↦ absurd (true≢false (sym word ∙ not-true (is_word_byte b) (long_first (λ x. not (is_word_byte x)) b c long refl refl)))
      | inr other ↦ other
    ]

pub no_slash : (test : ℕ → Bool) (b : ℕ) → test b ≡ true → test 47 ≡ false → eqb b 47 ≡ false
no_slash test b passes fails =
    elim (cases_Bool (eqb b 47)) [
      | inl slash ↦ absurd (true≢false (sym (subst (λ (x : ℕ). test x ≡ true) (eqb-true b 47 slash) passes) ∙ fails))
      | inr other ↦ other
    ]

pub long_no_slash : (b c : ℕ) → is_long_mark b c ≡ true → eqb b 47 ≡ false
long_no_slash b c long = not-true (eqb b 47) (long_first (λ x. not (eqb x 47)) b c long refl refl)

-- ---- fronts that pass a test

pub all_front : (test : ℕ → Bool) (n : ℕ) (xs : List ℕ) → n ≤ length xs → list_all test (take n xs) ≡ true → n ≤ prefix_len test xs
all_front test zero xs fits all = omega arith
all_front test (suc n) [] fits all = absurd (omega (arith, fits))
all_front test (suc n) (x ∷ xs) fits all =
    let both = and_parts (test x) (list_all test (take n xs)) all in
    let yes = both.0 in
    let more = all_front test n xs (omega (arith, fits)) both.1 in
    rw yes (omega (arith, more))

pub front_passes : (test : ℕ → Bool) (xs : List ℕ) → list_all test (take (prefix_len test xs) xs) ≡ true
front_passes test [] = refl
front_passes test (x ∷ xs) =
    elim (cases_Bool (test x)) [
      | inl passes ↦
          let next : 1 + prefix_len test xs ≡ suc (prefix_len test xs) = omega arith in
          rw (passes, next) (and_from (test x) (list_all test (take (prefix_len test xs) xs)) passes (front_passes test xs))
      | inr fails ↦ rw fails refl
    ]
