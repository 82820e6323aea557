-- What directives define, by cases: `#include`, which is skipped, and `#define` (ISO/IEC 9899:1990, 6.8.2 and 6.8.3).
use Rattle.std.specs.Prelude.{◌≡◌, ◌↔◌, ℕ, true, false, ℤ, List, ◌∷◌, codes, Some}
use Rattle.c_lexer.specs.declared.lexeme.Kind.TheVariants.{Word}
use Rattle.c_lexer.specs.Definition.{IsDefinition}
use Rattle.c_lexer.specs.Directive.{after_directive}
use Rattle.c_lexer.specs.Expression.{Part}
use Rattle.c_lexer.specs.Names.{is_reserved, is_operator, value_named, with_definition}

-- the part is this word
abbrev pub IsWord : List ℕ → Part → Type 0
IsWord bytes part = (part.kind ≡ Word) × (part.bytes ≡ bytes)

-- the name may be defined with the value: it is no other word, and not defined with another value
pub record MayBeDefined (names : List (List ℕ × ℤ)) (name : List ℕ) (v : ℤ) : Type 0 where
  pub reserved : is_reserved name ≡ false
  pub operator : is_operator name ≡ false
  pub same : (w : ℤ) → value_named names name ≡ Some w → w ≡ v

-- with these definitions, a directive of these parts leads to those
pub data IsObeyed (names : List (List ℕ × ℤ)) : List Part → List (List ℕ × ℤ) → Type 0 where
  Include : (word : Part) (rest : List Part) → IsWord (codes "include") word → IsObeyed names (word ∷ rest) names
  -- white space or a comment stands after the name
  Define : {v : ℤ} (word name first : Part) (rest : List Part) → IsWord (codes "define") word → name.kind ≡ Word → first.spaced ≡ true → IsDefinition names (first ∷ rest) v → MayBeDefined names name.bytes v
      → IsObeyed names (word ∷ name ∷ first ∷ rest) (with_definition names name.bytes v)

-- the definitions after a directive are those to which it leads
abbrev pub DirectivesAreObeyed : Type 0
DirectivesAreObeyed =
    (names : List (List ℕ × ℤ)) (parts : List Part) (after : List (List ℕ × ℤ)) → (after_directive names parts ≡ Some after) ↔ IsObeyed names parts after
