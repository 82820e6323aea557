-- Directives: `#include`, which is skipped, and `#define` of a number (ISO/IEC 9899:1990, 6.8.2 and 6.8.3). A
-- directive ends before the first line feed outside a comment.
use Rattle.std.specs.Prelude.{ℕ, zero, suc, ◌==◌, Bool, true, false, not, ◌&&◌, ◌||◌, if◌then◌else◌, ℤ, neg_ℤ, List, [], ◌∷◌, length, take, drop, slice_index, slice_get, sum_by, codes, Option, Some, None}
use Rattle.std.specs.Option.{option_map_or}
use Rattle.std.specs.Ordering.{int_eq}
use Rattle.std.specs.Str.{bytes_eq}
use Rattle.c_lexer.specs.declared.lexeme.Kind.{Kind}
use Rattle.c_lexer.specs.declared.lexeme.Kind.TheVariants.{White, Comment, OpenComment, Word, Number, Mark, Hash, Other}
use Rattle.c_lexer.specs.declared.lexeme.Lexeme.{Lexeme}
use Rattle.c_lexer.specs.Expression.{◌>>=◌, Part, within, operand_of, split_last, expression_value}
use Rattle.c_lexer.specs.Lexeme.{lexeme_of}
use Rattle.c_lexer.specs.Names.{value_named, with_definition, is_reserved, is_operator}
use Rattle.c_lexer.specs.Number.{number_value}

-- ---- the parts of a line

-- white space and comments
abbrev pub is_blank : Kind → Bool
is_blank White = true
is_blank Comment = true
is_blank OpenComment = false
is_blank Word = false
is_blank Number = false
is_blank Mark = false
is_blank Hash = false
is_blank Other = false

abbrev pub is_open : Kind → Bool
is_open White = false
is_open Comment = false
is_open OpenComment = true
is_open Word = false
is_open Number = false
is_open Mark = false
is_open Hash = false
is_open Other = false

abbrev pub is_word : Kind → Bool
is_word White = false
is_word Comment = false
is_word OpenComment = false
is_word Word = true
is_word Number = false
is_word Mark = false
is_word Hash = false
is_word Other = false

abbrev pub is_number : Kind → Bool
is_number White = false
is_number Comment = false
is_number OpenComment = false
is_number Word = false
is_number Number = true
is_number Mark = false
is_number Hash = false
is_number Other = false

-- the piece at the front of a rest of a line, which ends before a line feed and before a `/*` without its `*/`
unfoldable pub next_in_line : List ℕ → Option Lexeme
next_in_line rest =
    if length rest == 0 || slice_index rest 0 == 10 then None else if is_open (lexeme_of rest).kind then None else Some (lexeme_of rest)

-- the pieces of the rest of a line, at most this many
unfoldable pub line_pieces : ℕ → List ℕ → List (Kind × List ℕ)
line_pieces zero rest = []
line_pieces (suc n) rest = option_map_or (λ (l : Lexeme). (l.kind, take l.len rest) ∷ line_pieces n (drop l.len rest)) (next_in_line rest) []

-- those that are neither white space nor comments
abbrev pub parts_after : Bool → List (Kind × List ℕ) → List Part
parts_after spaced [] = []
parts_after spaced (p ∷ ps) =
    if is_blank p.0 then parts_after true ps else record { kind = p.0; bytes = p.1; spaced = spaced } ∷ parts_after false ps

-- the parts of the rest of a line
abbrev pub line_parts : List ℕ → List Part
line_parts rest = parts_after false (line_pieces (length rest) rest)

-- how many bytes the rest of a line has
abbrev pub line_bytes : List ℕ → ℕ
line_bytes rest = sum_by (λ p. length p.1) (line_pieces (length rest) rest)

-- ---- definitions

-- the value of `- N`
unfoldable pub negative_value : Part → Part → Option ℤ
negative_value sign number =
    if bytes_eq sign.bytes (codes "-") && is_number number.kind then number_value number.bytes >>= (λ v. within (neg_ℤ v)) else None

-- the value of `( E )`
unfoldable pub bracketed_value : List (List ℕ × ℤ) → Part → List Part → Option ℤ
bracketed_value names first rest =
    if bytes_eq first.bytes (codes "(") then split_last rest >>= (λ s. if bytes_eq s.1.bytes (codes ")") then expression_value names s.0 else None) else None

-- the value that a definition gives: a number, a defined name, a minus and a number, or an expression in brackets
abbrev pub defined_value : List (List ℕ × ℤ) → List Part → Option ℤ
defined_value names [] = None
defined_value names (p ∷ []) = operand_of names p
defined_value names (p ∷ q ∷ rest) = if length rest == 0 then negative_value p q else bracketed_value names p (q ∷ rest)

-- whether the name may be defined with the value
unfoldable pub may_be_defined : List (List ℕ × ℤ) → List ℕ → ℤ → Bool
may_be_defined names name value =
    not (is_reserved name) && not (is_operator name) && option_map_or (λ v. int_eq v value) (value_named names name) true

-- the definitions after a `#define` with these parts after its word
unfoldable pub after_define : List (List ℕ × ℤ) → Part → List Part → Option (List (List ℕ × ℤ))
after_define names name value =
    if is_word name.kind && option_map_or (λ (p : Part). p.spaced) (slice_get value 0) false then
    defined_value names value >>= (λ v. if may_be_defined names name.bytes v then Some (with_definition names name.bytes v) else None)
    else None

-- whether the part is this word
abbrev pub is_this_word : Part → List ℕ → Bool
is_this_word part word = is_word part.kind && bytes_eq part.bytes word

-- the definitions after a directive with these parts after its `#`, or nothing where it breaks the rules
abbrev pub after_directive : List (List ℕ × ℤ) → List Part → Option (List (List ℕ × ℤ))
after_directive names [] = None
after_directive names (first ∷ []) = if is_this_word first (codes "include") then Some names else None
after_directive names (first ∷ second ∷ rest) =
    if is_this_word first (codes "include") then Some names
    else if is_this_word first (codes "define") then after_define names second rest
    else None
