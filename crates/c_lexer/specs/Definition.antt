-- What a `#define` gives, by cases: a number or a defined name, a `-` and a number, or a sum in brackets. The value
-- lies within 32 bits.
use Rattle.std.specs.Prelude.{◌≡◌, ◌↔◌, ℕ, ℤ, neg_ℤ, List, [], ◌∷◌, ◌++◌, codes, Some}
use Rattle.c_lexer.specs.declared.lexeme.Kind.TheVariants.{Number}
use Rattle.c_lexer.specs.Expression.{Part, operand_of}
use Rattle.c_lexer.specs.Directive.{defined_value}
use Rattle.c_lexer.specs.Number.{number_value}
use Rattle.c_lexer.specs.Sum.{Fits, IsSum}

-- the parts after the name that is defined spell the value
pub data IsDefinition (names : List (List ℕ × ℤ)) : List Part → ℤ → Type 0 where
  Alone : {v : ℤ} (part : Part) → operand_of names part ≡ Some v → IsDefinition names (part ∷ []) v
  Negative : {v : ℤ} (mark number : Part) → mark.bytes ≡ codes "-" → number.kind ≡ Number → number_value number.bytes ≡ Some v → Fits (neg_ℤ v) → IsDefinition names (mark ∷ number ∷ []) (neg_ℤ v)
  Bracketed : {ps : List Part} {v : ℤ} (opening : Part) → opening.bytes ≡ codes "(" → IsSum names ps v → (closing : Part) → closing.bytes ≡ codes ")" → IsDefinition names (opening ∷ (ps ++ closing ∷ [])) v

-- the value of a definition is the one that its parts spell
abbrev pub ValuesOfDefinitions : Type 0
ValuesOfDefinitions = (names : List (List ℕ × ℤ)) (parts : List Part) (v : ℤ) → (defined_value names parts ≡ Some v) ↔ IsDefinition names parts v
