-- The definitions after a directive are those to which it leads by cases.
use Rattle.std.proofs.Common.{◌≡◌, ℕ, true, false, not, cond, ◌&&◌, List, [], ◌∷◌, codes, Option, Some, None, ℤ, refl, sym, ap, subst, ◌∙◌, inl, inr, arith}
use Rattle.std.specs.Option.{option_map_or}
use Rattle.std.specs.Ordering.{int_eq}
use Rattle.std.specs.Str.{bytes_eq}
use Rattle.std.proofs.lemmas.Bool.{cases_Bool, and_parts, and_from, not-true, cond-true, cond-false}
use Rattle.std.proofs.lemmas.Bool.Decides.{Decides-int_eq}
use Rattle.std.proofs.lemmas.Option.{option_and_then_some, none-some, same_Some}
use Rattle.std.proofs.lemmas.Slice.Eq.{bytes_eq-Decides}
use Rattle.c_lexer.specs.declared.lexeme.Kind.{Kind}
use Rattle.c_lexer.specs.declared.lexeme.Kind.TheVariants.{Word}
use Rattle.c_lexer.specs.Directive.{is_word, is_this_word, defined_value, may_be_defined, after_define, after_directive}
use Rattle.c_lexer.specs.Expression.{◌>>=◌, Part}
use Rattle.c_lexer.specs.Names.{is_reserved, is_operator, value_named, with_definition}
use Rattle.c_lexer.specs.Obeyed.{IsWord, MayBeDefined, IsObeyed, Include, Define, DirectivesAreObeyed}
use Rattle.c_lexer.proofs.DefinitionValues.{definition_is_spelled, definition_is_read}

word_is : (kind : Kind) → is_word kind ≡ true → kind ≡ Word
word_is kind e = grind arith

is_this : (part : Part) (bytes : List ℕ) → is_this_word part bytes ≡ true → IsWord bytes part
is_this part bytes e = let both = and_parts (is_word part.kind) (bytes_eq part.bytes bytes) e in (word_is part.kind both.0, (bytes_eq-Decides part.bytes bytes).0 both.1)

this_is : (part : Part) (bytes : List ℕ) → IsWord bytes part → is_this_word part bytes ≡ true
this_is part bytes is = and_from (is_word part.kind) (bytes_eq part.bytes bytes) (ap is_word is.0) ((bytes_eq-Decides part.bytes bytes).1 is.1)

-- the definitions after a `#define` where its name is defined with a value
abbrev kept : List (List ℕ × ℤ) → List ℕ → ℤ → Option (List (List ℕ × ℤ))
kept names name v = cond (may_be_defined names name v) (Some (with_definition names name v)) None

module _ (names : List (List ℕ × ℤ)) where
  same_value : (o : Option ℤ) (v w : ℤ) → option_map_or (λ x. int_eq x v) o true ≡ true → o ≡ Some w → w ≡ v
  same_value None v w same e = cc
  same_value (Some x) v w same e = let is : x ≡ w = cc in sym is ∙ (Decides-int_eq x v).0 same

  value_same : (o : Option ℤ) (v : ℤ) → ((w : ℤ) → o ≡ Some w → w ≡ v) → option_map_or (λ x. int_eq x v) o true ≡ true
  value_same None v same = refl
  value_same (Some x) v same = (Decides-int_eq x v).1 (same x refl)

  may_be : (name : List ℕ) (v : ℤ) → may_be_defined names name v ≡ true → MayBeDefined names name v
  unfolding may_be_defined
  may_be name v e =
      let outer = and_parts (not (is_reserved name) && not (is_operator name)) (option_map_or (λ x. int_eq x v) (value_named names name) true) e in
      let inner = and_parts (not (is_reserved name)) (not (is_operator name)) outer.0 in
      record { reserved = not-true (is_reserved name) inner.0; operator = not-true (is_operator name) inner.1; same = λ w is. same_value (value_named names name) v w outer.1 is }

  be_may : (name : List ℕ) (v : ℤ) → MayBeDefined names name v → may_be_defined names name v ≡ true
  unfolding may_be_defined
  be_may name v is =
      let reserved = is.reserved in
      let operator = is.operator in
      rw (reserved, operator) (value_same (value_named names name) v is.same)

  -- ---- `#define`

  define_is : (word name first : Part) (rest : List Part) (after : List (List ℕ × ℤ)) → IsWord (codes "define") word → after_define names name (first ∷ rest) ≡ Some after → IsObeyed names (word ∷ name ∷ first ∷ rest) after
  unfolding after_define
  define_is word name first rest after is e =
      elim (cases_Bool (is_word name.kind && first.spaced)) [
        | inl both ↦
            let parts = and_parts (is_word name.kind) first.spaced both in
            let known : (defined_value names (first ∷ rest) >>= (λ v. kept names name.bytes v)) ≡ Some after = rw both at e in
            option_and_then_some (λ v. kept names name.bytes v) (defined_value names (first ∷ rest)) after known
            (λ v valued more. elim (cases_Bool (may_be_defined names name.bytes v)) [
              | inl may ↦
                  let same = same_Some (with_definition names name.bytes v) after (sym (cond-true (may_be_defined names name.bytes v) (Some (with_definition names name.bytes v)) None may) ∙ more) in
                  subst (IsObeyed names (word ∷ name ∷ first ∷ rest)) same
                  (Define word name first rest is (word_is name.kind parts.0) parts.1 (definition_is_spelled names (first ∷ rest) v valued) (may_be name.bytes v may))
              | inr other ↦ absurd (none-some after (sym (cond-false (may_be_defined names name.bytes v) (Some (with_definition names name.bytes v)) None other) ∙ more))
            ])
        | inr other ↦ absurd (none-some after (rw other at e))
      ]

  empty_define : (name : Part) (after : List (List ℕ × ℤ)) → after_define names name [] ≡ Some after → ⊥
  unfolding after_define
  empty_define name after e =
      elim (cases_Bool (is_word name.kind)) [
        | inl word ↦ none-some after (rw word at e)
        | inr other ↦ none-some after (rw other at e)
      ]

  is_define : (name first : Part) (rest : List Part) (v : ℤ) → name.kind ≡ Word → first.spaced ≡ true → defined_value names (first ∷ rest) ≡ Some v → may_be_defined names name.bytes v ≡ true
      → after_define names name (first ∷ rest) ≡ Some (with_definition names name.bytes v)
  unfolding after_define
  is_define name first rest v kind spaced valued may = rw (kind, spaced, valued, may) refl

  -- ---- all directives

  obeyed : (parts : List Part) (after : List (List ℕ × ℤ)) → after_directive names parts ≡ Some after → IsObeyed names parts after
  obeyed [] after e = absurd (none-some after e)
  obeyed (first ∷ []) after e =
      elim (cases_Bool (is_this_word first (codes "include"))) [
        | inl include ↦ let same = same_Some names after (rw include at e) in subst (IsObeyed names (first ∷ [])) same (Include first [] (is_this first (codes "include") include))
        | inr other ↦ absurd (none-some after (rw other at e))
      ]
  obeyed (first ∷ second ∷ rest) after e =
      elim (cases_Bool (is_this_word first (codes "include"))) [
        | inl include ↦ let same = same_Some names after (rw include at e) in subst (IsObeyed names (first ∷ second ∷ rest)) same (Include first (second ∷ rest) (is_this first (codes "include") include))
        | inr other ↦ elim (cases_Bool (is_this_word first (codes "define"))) [
          | inl define ↦ by rest (is_this first (codes "define") define) (rw (other, define) at e)
          | inr neither ↦ absurd (none-some after (rw (other, neither) at e))
        ]
      ]
    where
      by : (rest : List Part) → IsWord (codes "define") first → after_define names second rest ≡ Some after → IsObeyed names (first ∷ second ∷ rest) after
      by [] is e = absurd (empty_define second after e)
      by (third ∷ rest) is e = define_is first second third rest after is e

  include_read : (word : Part) (rest : List Part) → is_this_word word (codes "include") ≡ true → after_directive names (word ∷ rest) ≡ Some names
  include_read word [] is = rw is refl
  include_read word (second ∷ rest) is = rw is refl

  no_include : (word : Part) → IsWord (codes "define") word → is_this_word word (codes "include") ≡ false
  no_include word is = rw (is.0, is.1) refl

  read : (parts : List Part) (after : List (List ℕ × ℤ)) → IsObeyed names parts after → after_directive names parts ≡ Some after
  read _ _ (Include word rest is) = include_read word rest (this_is word (codes "include") is)
  read _ _ (Define {v = v} word name first rest is kind spaced definition may) =
      let other = no_include word is in
      let define = this_is word (codes "define") is in
      rw (other, define) (is_define name first rest v kind spaced (definition_is_read names (first ∷ rest) v definition) (be_may name.bytes v may))

pub directives_are_obeyed : DirectivesAreObeyed
directives_are_obeyed names parts after = (obeyed names parts after, read names parts after)
