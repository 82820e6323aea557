-- Pieces of a text: what a piece at the front of a text is, and how far it reaches. A piece is the longest of
-- its kind there (ISO/IEC 9899:1990, 6.1).
use Rattle.std.specs.Prelude.{ℕ, suc, ◌+◌, nat_le, nat_eq, slice_index, ◌==◌, Bool, true, false, not, ◌&&◌, ◌||◌, if◌then◌else◌, List, [], ◌∷◌, length, drop, codes, Option, Some, None, option_map}
use Rattle.std.specs.List.{prefix_len, list_any, starts_with}
use Rattle.std.specs.Option.{option_map_or}
use Rattle.c_lexer.specs.declared.lexeme.Kind.{Kind}
use Rattle.c_lexer.specs.declared.lexeme.Kind.TheVariants.{White, Comment, OpenComment, Word, Number, Mark, Hash, Other}
use Rattle.c_lexer.specs.declared.lexeme.Lexeme.{Lexeme}

-- ---- bytes

-- the bytes 9 to 13 and 32
abbrev pub is_white : ℕ → Bool
is_white b = (nat_le 9 b && nat_le b 13) || b == 32

-- a letter or `_`
abbrev pub is_word_start : ℕ → Bool
is_word_start b = (nat_le 65 b && nat_le b 90) || (nat_le 97 b && nat_le b 122) || b == 95

-- a letter, a digit or `_`
abbrev pub is_word_byte : ℕ → Bool
is_word_byte b = (nat_le 48 b && nat_le b 57) || is_word_start b

-- a byte before the end of its line
abbrev pub is_in_line : ℕ → Bool
is_in_line b = not (b == 10)

-- ---- marks

-- `&&` `||` `++` `--`, and the marks that end in `=`
abbrev pub is_long_mark : ℕ → ℕ → Bool
is_long_mark first second =
    if second == 61 then list_any (λ b. b == first) (codes "=!<>+-*&|^") else first == second && list_any (λ b. b == first) (codes "&|+-")

-- the marks of one byte
abbrev pub is_short_mark : ℕ → Bool
is_short_mark byte = list_any (λ b. b == byte) (codes "()[]{},;?:=<>+-*&|^~!")

-- ---- comments

-- how many bytes stand before the first `*/` and in it
abbrev pub closing_len : List ℕ → Option ℕ
closing_len [] = None
closing_len (b ∷ bs) = if starts_with nat_eq (b ∷ bs) (codes "*/") then Some 2 else option_map suc (closing_len bs)

abbrev pub comment_of : ℕ → Lexeme
comment_of len = record { kind = Comment; len = len }

-- the comment that begins with the text's `/*`
unfoldable pub block_comment_of : List ℕ → Lexeme
block_comment_of text =
    option_map_or (λ n. comment_of (n + 2)) (closing_len (drop 2 text)) (record { kind = OpenComment; len = length text })

-- ---- pieces

-- the byte at a place, or 0 after the text
abbrev pub byte_after : List ℕ → ℕ → ℕ
byte_after text n = slice_index text n

abbrev pub is_hash : Kind → Bool
is_hash White = false
is_hash Comment = false
is_hash OpenComment = false
is_hash Word = false
is_hash Number = false
is_hash Mark = false
is_hash Hash = true
is_hash Other = false

-- a piece of one byte, which begins no word, number or comment
abbrev pub single_kind : ℕ → Kind
single_kind b = if is_white b then White else if is_short_mark b then Mark else if b == 35 then Hash else Other

-- The longest piece at the front of a text that is not empty. A word and a number end where no letter, digit or
-- `_` follows, a `//` comment before the line feed, and of two marks the longer one is taken.
unfoldable pub lexeme_of : List ℕ → Lexeme
lexeme_of text =
    let first = slice_index text 0 in
    let second = byte_after text 1 in
    if first == 47 && second == 42 then block_comment_of text
    else if first == 47 && second == 47 then record { kind = Comment; len = prefix_len is_in_line text }
    else if is_long_mark first second then record { kind = Mark; len = 2 }
    else if is_word_byte first then record { kind = if is_word_start first then Word else Number; len = prefix_len is_word_byte text }
    else record { kind = single_kind first; len = 1 }
