-- What the definitions of bytes, words, places and numbers come to, in plainer words than they are made of.
use Rattle.std.specs.Prelude.{◌≡◌, ◌↔◌, ◌⊎◌, ℕ, ◌+◌, ◌*◌, ◌-◌, ◌≤◌, nat_le, ◌==◌, Bool, IsTrue, not, ◌&&◌, ◌||◌, if◌then◌else◌, ℤ, pos, ◌-ℤ◌, List, [], ◌∷◌, ◌++◌, length, fold, count_by, codes, map, Some}
use Rattle.std.specs.List.{list_all, list_any, concat}
use Rattle.sat_base.specs.Position.{position_after}
use Rattle.c_lexer.specs.Lexeme.{is_white}
use Rattle.c_lexer.specs.Names.{reserved_words}
use Rattle.c_lexer.specs.Number.{number_value}

-- white space is a space, a tab, a line feed, a vertical tab, a form feed or a carriage return
abbrev pub WhiteBytes : Type 0
WhiteBytes = (b : ℕ) → is_white b ≡ list_any (λ w. w == b) (32 ∷ 9 ∷ 10 ∷ 11 ∷ 12 ∷ 13 ∷ [])

-- with a space after each, the reserved words are this line
abbrev pub ReservedWords : Type 0
ReservedWords =
    concat (map (λ word. word ++ codes " ") reserved_words)
    ≡ codes "auto break case char const continue default do double else enum extern float for goto if int long register return short signed sizeof static struct switch typedef union unsigned void volatile while Word16 Word32 Flag Overflow "

-- ---- places

-- a line is counted by the line feeds before it
abbrev pub LinesAreCounted : Type 0
LinesAreCounted = (text : List ℕ) → (position_after text).line ≡ 1 + count_by (λ b. b == 10) text

-- a column is counted by the bytes after the last line feed, or after the beginning of the text
abbrev pub ColumnsAreCounted : Type 0
ColumnsAreCounted =
    (before line : List ℕ) → IsTrue (list_all (λ b. not (b == 10)) line)
    → ((position_after line).col ≡ 1 + length line) × ((position_after (before ++ 10 ∷ line)).col ≡ 1 + length line)

-- ---- numbers

-- a digit of a radix up to ten
abbrev pub is_digit_below : ℕ → ℕ → Bool
is_digit_below radix c = nat_le 48 c && nat_le c (47 + radix)

-- `0` to `9`, `a` to `f` and `A` to `F`
abbrev pub is_sixteenth : ℕ → Bool
is_sixteenth c = (nat_le 48 c && nat_le c 57) || (nat_le 97 c && nat_le c 102) || (nat_le 65 c && nat_le c 70)

-- the value of one of these
abbrev pub value_of_digit : ℕ → ℕ
value_of_digit c = if nat_le c 57 then c - 48 else if nat_le c 70 then c - 55 else c - 87

-- what digits write: each counts the radix times the one after it
abbrev pub written : ℕ → List ℕ → ℕ
written radix digits = fold (λ n c. n * radix + value_of_digit c) 0 digits

-- a number without an `L`, with its value
pub data IsWritten : List ℕ → ℤ → Type 0 where
  Decimal : {first : ℕ} {more : List ℕ} {n : ℕ} → IsTrue (nat_le 49 first && nat_le first 57) → IsTrue (list_all (is_digit_below 10) more) → written 10 (first ∷ more) ≡ n → n ≤ 2147483647
      → IsWritten (first ∷ more) (pos n)
  Octal : {digits : List ℕ} {n : ℕ} → IsTrue (list_all (is_digit_below 8) digits) → written 8 digits ≡ n → n ≤ 2147483647 → IsWritten (48 ∷ digits) (pos n)
  Hexadecimal : {x first : ℕ} {more : List ℕ} {n : ℕ} → (x ≡ 120) ⊎ (x ≡ 88) → IsTrue (list_all is_sixteenth (first ∷ more)) → written 16 (first ∷ more) ≡ n → n ≤ 2147483647
      → IsWritten (48 ∷ x ∷ first ∷ more) (pos n)
  -- the negative numbers have the patterns from 0x80000000 on
  Negative : {x first : ℕ} {more : List ℕ} {n : ℕ} → (x ≡ 120) ⊎ (x ≡ 88) → IsTrue (list_all is_sixteenth (first ∷ more)) → written 16 (first ∷ more) ≡ n → 2147483648 ≤ n → n ≤ 4294967295
      → IsWritten (48 ∷ x ∷ first ∷ more) (pos n -ℤ pos 4294967296)

-- a number, which may end in `L` or `l`, with its value
pub data IsNumber : List ℕ → ℤ → Type 0 where
  Short : {digits : List ℕ} {v : ℤ} → IsWritten digits v → IsNumber digits v
  Long : {digits : List ℕ} {l : ℕ} {v : ℤ} → IsWritten digits v → (l ≡ 76) ⊎ (l ≡ 108) → IsNumber (digits ++ l ∷ []) v

-- the value of a number is the one that its digits write
abbrev pub ValuesOfNumbers : Type 0
ValuesOfNumbers = (bytes : List ℕ) (v : ℤ) → (number_value bytes ≡ Some v) ↔ IsNumber bytes v
