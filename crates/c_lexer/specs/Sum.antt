-- Expressions by cases (ISO/IEC 9899:1990): a sum (6.3.6) is a product, or a sum, `+` or `-`, and a product; a
-- product (6.3.5) is a unary expression, or a product, `*`, and a unary expression; a unary expression (6.3.3) is an
-- operand, a `-` and a unary expression, or a sum in brackets (6.3.1). The value of each expression lies within
-- 32 bits.
use Rattle.std.specs.Prelude.{◌≡◌, ◌≢◌, ◌↔◌, ℕ, ℤ, pos, negsuc, neg_ℤ, ◌+ℤ◌, ◌-ℤ◌, ◌*ℤ◌, ◌≤ℤ◌, List, [], ◌∷◌, ◌++◌, codes, Some}
use Rattle.c_lexer.specs.Expression.{Part, operand_of, expression_value}

-- lies within 32 bits
abbrev pub Fits : ℤ → Type 0
Fits v = (negsuc 2147483647 ≤ℤ v) × (v ≤ℤ pos 2147483647)

mutual
  -- the parts spell a sum with the value
  pub data IsSum (names : List (List ℕ × ℤ)) : List Part → ℤ → Type 0 where
    Product : {ps : List Part} {v : ℤ} → IsProduct names ps v → IsSum names ps v
    Plus : {ps qs : List Part} {v w : ℤ} → IsSum names ps v → (mark : Part) → mark.bytes ≡ codes "+" → IsProduct names qs w → Fits (v +ℤ w) → IsSum names (ps ++ mark ∷ qs) (v +ℤ w)
    Minus : {ps qs : List Part} {v w : ℤ} → IsSum names ps v → (mark : Part) → mark.bytes ≡ codes "-" → IsProduct names qs w → Fits (v -ℤ w) → IsSum names (ps ++ mark ∷ qs) (v -ℤ w)

  -- the parts spell a product with the value
  pub data IsProduct (names : List (List ℕ × ℤ)) : List Part → ℤ → Type 0 where
    Unary : {ps : List Part} {v : ℤ} → IsUnary names ps v → IsProduct names ps v
    Times : {ps qs : List Part} {v w : ℤ} → IsProduct names ps v → (mark : Part) → mark.bytes ≡ codes "*" → IsUnary names qs w → Fits (v *ℤ w) → IsProduct names (ps ++ mark ∷ qs) (v *ℤ w)

  -- the parts spell a unary expression with the value
  pub data IsUnary (names : List (List ℕ × ℤ)) : List Part → ℤ → Type 0 where
    -- a number or a defined name, but neither of the marks that may stand in its place
    Operand : {v : ℤ} (part : Part) → part.bytes ≢ codes "(" → part.bytes ≢ codes "-" → operand_of names part ≡ Some v → IsUnary names (part ∷ []) v
    Opposite : {ps : List Part} {v : ℤ} (mark : Part) → mark.bytes ≡ codes "-" → IsUnary names ps v → Fits (neg_ℤ v) → IsUnary names (mark ∷ ps) (neg_ℤ v)
    Brackets : {ps : List Part} {v : ℤ} (opening : Part) → opening.bytes ≡ codes "(" → IsSum names ps v → (closing : Part) → closing.bytes ≡ codes ")" → IsUnary names (opening ∷ (ps ++ closing ∷ [])) v

-- the value of an expression is the one with which its parts spell a sum
abbrev pub ValuesOfSums : Type 0
ValuesOfSums = (names : List (List ℕ × ℤ)) (parts : List Part) (v : ℤ) → (expression_value names parts ≡ Some v) ↔ IsSum names parts v
