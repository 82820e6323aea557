-- The values of the bracketed expressions of directives, from left to right. Unary `-` binds before `*`, and `*`
-- before `+` and `-`, each from the left (ISO/IEC 9899:1990, 6.3.3, 6.3.5 and 6.3.6). Every value lies within
-- 32 bits. specs/Sum.antt says the same by cases on expressions.
use Rattle.std.specs.Prelude.{ℕ, Bool, true, false, not, ◌||◌, ◌==◌, length, if◌then◌else◌, ℤ, pos, negsuc, neg_ℤ, int_lt, ◌+ℤ◌, ◌-ℤ◌, ◌*ℤ◌, List, [], ◌∷◌, ◌++◌, codes, Option, Some, None, option_and_then}
use Rattle.std.specs.Option.{option_map_or}
use Rattle.std.specs.Str.{bytes_eq}
use Rattle.c_lexer.specs.declared.expression.Evaluation.{Evaluation}
use Rattle.c_lexer.specs.declared.expression.Frame.{Frame}
use Rattle.c_lexer.specs.declared.lexeme.Kind.{Kind}
use Rattle.c_lexer.specs.declared.lexeme.Kind.TheVariants.{White, Comment, OpenComment, Word, Number, Mark, Hash, Other}
use Rattle.c_lexer.specs.Names.{value_named}
use Rattle.c_lexer.specs.Number.{number_value}

infixl 10 ◌>>=◌
abbrev pub ◌>>=◌ : {A B : Type 0} → Option A → (A → Option B) → Option B
o >>= f = option_and_then f o

-- a piece of a directive that is neither white space nor a comment
pub record Part : Type 0 where
  pub kind : Kind
  pub bytes : List ℕ
  -- whether white space or a comment stands before it
  pub spaced : Bool

-- the number, if it lies within 32 bits
abbrev pub within : ℤ → Option ℤ
within z = if int_lt z (negsuc 2147483647) || int_lt (pos 2147483647) z then None else Some z

-- the value of a number or of a defined name
abbrev pub operand_by : List (List ℕ × ℤ) → List ℕ → Kind → Option ℤ
operand_by names bytes Number = number_value bytes
operand_by names bytes Word = value_named names bytes
operand_by names bytes White = None
operand_by names bytes Comment = None
operand_by names bytes OpenComment = None
operand_by names bytes Mark = None
operand_by names bytes Hash = None
operand_by names bytes Other = None

-- the same, if it lies within 32 bits
abbrev pub operand_of : List (List ℕ × ℤ) → Part → Option ℤ
operand_of names part = operand_by names part.bytes part.kind >>= within

-- ---- what stands before an operand in one pair of brackets: the sum so far, the mark after it, the product of
-- the factors so far, and the signs

abbrev pub first_frame : Frame
first_frame = record { sum = pos 0; subtracts = false; factor = pos 1; negated = false; negative = false }

-- one more sign
abbrev pub with_sign : Frame → Frame
with_sign f = record f { negated = true; negative = not f.negative }

-- the operand with its signs
unfoldable pub signed_of : Frame → ℤ → Option ℤ
signed_of f operand = if f.negated then within (neg_ℤ operand) >>= (λ n. Some (if f.negative then n else operand)) else Some operand

-- the product up to the operand
unfoldable pub product_of : Frame → ℤ → Option ℤ
product_of f operand = signed_of f operand >>= (λ signed. within (f.factor *ℤ signed))

-- the sum up to the product
unfoldable pub total_of : Frame → ℤ → Option ℤ
total_of f product = within (if f.subtracts then f.sum -ℤ product else f.sum +ℤ product)

abbrev pub after_factor : Frame → ℤ → Frame
after_factor f product = record f { factor = product; negated = false; negative = false }

abbrev pub after_term : ℤ → Bool → Frame
after_term total subtracts = record first_frame { sum = total; subtracts = subtracts }

-- ---- brackets in brackets

-- a list without its last item, and that item
unfoldable pub split_last : {X : Type 0} → List X → Option (List X × X)
split_last [] = None
split_last {X} (x ∷ xs) = option_map_or (λ (p : List X × X). Some (x ∷ p.0, p.1)) (split_last xs) (Some ([], x))

-- where an operand is wanted
unfoldable pub at_operand : List (List ℕ × ℤ) → Evaluation → Part → Option Evaluation
at_operand names e part =
    if bytes_eq part.bytes (codes "(") then Some (record { outer = e.outer ++ e.frame ∷ []; frame = first_frame; value = None })
    else if bytes_eq part.bytes (codes "-") then Some (record e { frame = with_sign e.frame })
    else operand_of names part >>= (λ v. product_of e.frame v >>= (λ p. Some (record e { value = Some p })))

-- after the innermost brackets, whose value this is
unfoldable pub closed : Evaluation → ℤ → Option Evaluation
closed e total =
    split_last e.outer >>= (λ s. product_of s.1 total >>= (λ p. Some (record { outer = s.0; frame = s.1; value = Some p })))

-- after an operand, up to which the product is known
unfoldable pub at_mark : Evaluation → ℤ → Part → Option Evaluation
at_mark e product part =
    if bytes_eq part.bytes (codes "*") then Some (record e { frame = after_factor e.frame product; value = None })
    else if bytes_eq part.bytes (codes "+") then total_of e.frame product >>= (λ t. Some (record e { frame = after_term t false; value = None }))
    else if bytes_eq part.bytes (codes "-") then total_of e.frame product >>= (λ t. Some (record e { frame = after_term t true; value = None }))
    else if bytes_eq part.bytes (codes ")") then total_of e.frame product >>= (λ t. closed e t)
    else None

abbrev pub after_part : List (List ℕ × ℤ) → Evaluation → Part → Option Evaluation
after_part names e part = option_map_or (λ product. at_mark e product part) e.value (at_operand names e part)

abbrev pub after_parts : List (List ℕ × ℤ) → Evaluation → List Part → Option Evaluation
after_parts names e [] = Some e
after_parts names e (part ∷ parts) = after_part names e part >>= (λ next. after_parts names next parts)

abbrev pub first_evaluation : Evaluation
first_evaluation = record { outer = []; frame = first_frame; value = None }

-- the value at the end of all brackets
unfoldable pub final_value : Evaluation → Option ℤ
final_value e = if length e.outer == 0 then e.value >>= (λ product. total_of e.frame product) else None

-- the value of the expression
abbrev pub expression_value : List (List ℕ × ℤ) → List Part → Option ℤ
expression_value names parts = after_parts names first_evaluation parts >>= final_value
