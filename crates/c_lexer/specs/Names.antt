-- Words that are reserved, names that are taken, and names that are defined.
use Rattle.std.specs.Prelude.{ℕ, Bool, ◌||◌, if◌then◌else◌, ℤ, pos, neg_ℤ, List, [], ◌∷◌, ◌++◌, codes, Option, Some, None}
use Rattle.std.specs.List.{list_any}
use Rattle.std.specs.Option.{is_some}
use Rattle.std.specs.Str.{bytes_eq}
use Rattle.operator_meaning.specs.Table.{row_of}
use Rattle.operator_meaning.specs.declared.operator.TheConstants.{OPERATORS}

-- the 32 keywords of C90 (ISO/IEC 9899:1990, 6.1.1), and the words of the profile
abbrev pub reserved_words : List (List ℕ)
reserved_words =
    codes "auto" ∷ codes "break" ∷ codes "case" ∷ codes "char" ∷ codes "const" ∷ codes "continue" ∷ codes "default" ∷ codes "do"
    ∷ codes "double" ∷ codes "else" ∷ codes "enum" ∷ codes "extern" ∷ codes "float" ∷ codes "for" ∷ codes "goto" ∷ codes "if"
    ∷ codes "int" ∷ codes "long" ∷ codes "register" ∷ codes "return" ∷ codes "short" ∷ codes "signed" ∷ codes "sizeof" ∷ codes "static"
    ∷ codes "struct" ∷ codes "switch" ∷ codes "typedef" ∷ codes "union" ∷ codes "unsigned" ∷ codes "void" ∷ codes "volatile" ∷ codes "while"
    ∷ codes "Word16" ∷ codes "Word32" ∷ codes "Flag" ∷ codes "Overflow" ∷ []

abbrev pub is_reserved : List ℕ → Bool
is_reserved word = list_any (λ w. bytes_eq w word) reserved_words

-- the name of a basic operator, of which `round` has two
abbrev pub is_basic : List ℕ → Bool
is_basic word = bytes_eq word (codes "round_fx") || list_any (λ op. bytes_eq word (row_of op).name) OPERATORS

-- the calls that count, and the calls that read and write samples
abbrev pub call_names : List (List ℕ)
call_names =
    codes "move16" ∷ codes "move32" ∷ codes "logic16" ∷ codes "logic32" ∷ codes "test" ∷ codes "sample_out" ∷ codes "sample_in" ∷ codes "sample_left" ∷ []

abbrev pub is_operator : List ℕ → Bool
is_operator word = is_basic word || list_any (λ w. bytes_eq w word) call_names

-- ---- definitions: names with their values, in the order of the text

-- the value of a name, if it is defined
abbrev pub value_named : List (List ℕ × ℤ) → List ℕ → Option ℤ
value_named [] name = None
value_named (d ∷ ds) name = if bytes_eq name d.0 then Some d.1 else value_named ds name

-- the definitions with one more, unless they have it
unfoldable pub with_definition : List (List ℕ × ℤ) → List ℕ → ℤ → List (List ℕ × ℤ)
with_definition ds name value = if is_some (value_named ds name) then ds else ds ++ (name, value) ∷ []

-- what is defined before the text
abbrev pub predefined : List (List ℕ × ℤ)
predefined =
    (codes "MAX_16", pos 32767) ∷ (codes "MIN_16", neg_ℤ (pos 32768)) ∷ (codes "MAX_32", pos 2147483647) ∷ (codes "MIN_32", neg_ℤ (pos 2147483648)) ∷ []
