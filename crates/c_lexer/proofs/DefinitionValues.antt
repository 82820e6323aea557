-- The value that a definition gives is the one that its parts spell.
use Rattle.std.proofs.Common.{◌≡◌, ◌==◌, ◌&&◌, ℕ, Bool, true, false, inl, inr, List, [], ◌∷◌, ◌++◌, length, codes, Some, ℤ, neg_ℤ, refl, sym, ap, ◌∙◌, subst, arith}
use Rattle.std.proofs.lemmas.Bool.{cases_Bool}
use Rattle.std.proofs.lemmas.Bool.Decides.{nat_tests}
use Rattle.std.proofs.lemmas.Option.{option_and_then_some, none-some}
use Rattle.std.proofs.lemmas.Slice.Eq.{bytes_eq-Decides}
use Rattle.std.specs.Str.{bytes_eq}
use Rattle.c_lexer.specs.declared.lexeme.Kind.{Kind}
use Rattle.c_lexer.specs.declared.lexeme.Kind.TheVariants.{Number}
use Rattle.c_lexer.specs.Expression.{◌>>=◌, Part, within, final_value, expression_value}
use Rattle.c_lexer.specs.Directive.{is_number, negative_value, bracketed_value, defined_value}
use Rattle.c_lexer.specs.Number.{number_value}
use Rattle.c_lexer.specs.Sum.{Fits}
use Rattle.c_lexer.specs.Definition.{IsDefinition, Alone, Negative, Bracketed}
use Rattle.c_lexer.proofs.Facts.{bracketed_yes, bracketed_no}
use Rattle.c_lexer.proofs.SumSteps.{within_of, of_within}
use Rattle.c_lexer.proofs.SumsRead.{sum_is_read}
use Rattle.c_lexer.proofs.SumsSpelled.{sum_is_spelled}

-- what is before the last item, and that item
last_of : {X : Type 0} (x : X) (xs : List X) → (s : List X × X) × (x ∷ xs ≡ s.0 ++ s.1 ∷ [])
last_of x [] = (([], x), refl)
last_of x (y ∷ ys) = let r = last_of y ys in ((x ∷ r.0.0, r.0.1), ap (λ zs. x ∷ zs) r.1)

some_after : {X : Type 0} (xs : List X) (x : X) → (length (xs ++ x ∷ []) == 0) ≡ false
some_after [] x = refl
some_after (y ∷ xs) x = grind (arith, nat_tests)

both_hold : (a b : Bool) → (a && b) ≡ true → (a ≡ true) × (b ≡ true)
both_hold true b h = (refl, h)
both_hold false b h = cc h

number_kind : (k : Kind) → is_number k ≡ true → k ≡ Number
number_kind k h = grind arith

module _ (names : List (List ℕ × ℤ)) where
  spells_negative : (mark number : Part) (v : ℤ) → negative_value mark number ≡ Some v → IsDefinition names (mark ∷ number ∷ []) v
  unfolding negative_value
  spells_negative mark number v h =
      elim (cases_Bool (bytes_eq mark.bytes (codes "-") && is_number number.kind)) [
        | inl both ↦
            let known : (number_value number.bytes >>= (λ n. within (neg_ℤ n))) ≡ Some v = rw both at h in
            let is = both_hold _ _ both in
            option_and_then_some (λ n. within (neg_ℤ n)) (number_value number.bytes) v known
            (λ n valued end.
            let found = of_within (neg_ℤ n) v end in
            let fits = subst Fits found.0 found.1 in
            subst (IsDefinition names (mark ∷ number ∷ [])) (sym found.0)
            (Negative mark number ((bytes_eq-Decides mark.bytes (codes "-")).0 is.0) (number_kind number.kind is.1) valued fits))
        | inr other ↦ absurd (none-some v (rw other at h))
      ]

  spells_bracketed : (first second : Part) (rest : List Part) (v : ℤ) → bracketed_value names first (second ∷ rest) ≡ Some v → IsDefinition names (first ∷ second ∷ rest) v
  unfolding bracketed_value
  spells_bracketed first second rest v h =
      let s = last_of second rest in
      elim (cases_Bool (bytes_eq first.bytes (codes "("))) [
        | inl opened ↦
            elim (cases_Bool (bytes_eq s.0.1.bytes (codes ")"))) [
              | inl ended ↦
                  let sum = sum_is_spelled names s.0.0 v (sym (bracketed_yes names first s.0.0 s.0.1 (second ∷ rest) s.1 opened ended) ∙ h) in
                  subst (λ ps. IsDefinition names (first ∷ ps) v) (sym s.1)
                  (Bracketed first ((bytes_eq-Decides first.bytes (codes "(")).0 opened) sum s.0.1 ((bytes_eq-Decides s.0.1.bytes (codes ")")).0 ended))
              | inr other ↦ absurd (none-some v (sym (bracketed_no names first s.0.0 s.0.1 (second ∷ rest) s.1 opened other) ∙ h))
            ]
        | inr other ↦ absurd (none-some v (rw other at h))
      ]

  pub definition_is_spelled : (parts : List Part) (v : ℤ) → defined_value names parts ≡ Some v → IsDefinition names parts v
  definition_is_spelled [] v h = absurd (none-some v h)
  definition_is_spelled (p ∷ []) v h = Alone p h
  definition_is_spelled (p ∷ q ∷ []) v h = spells_negative p q v h
  definition_is_spelled (p ∷ q ∷ r ∷ rest) v h =
      let more : (length (r ∷ rest) == 0) ≡ false = grind (arith, nat_tests) in
      spells_bracketed p q (r ∷ rest) v (rw more at h)

  no_empty_sum : (v : ℤ) → expression_value names [] ≡ Some v → ⊥
  unfolding final_value
  no_empty_sum v h = none-some v h

  bracketed_is_read : (ps : List Part) (v : ℤ) (opening closing : Part) → opening.bytes ≡ codes "(" → closing.bytes ≡ codes ")" → expression_value names ps ≡ Some v → defined_value names (opening ∷ (ps ++ closing ∷ [])) ≡ Some v
  bracketed_is_read [] v opening closing opens closes h = absurd (no_empty_sum v h)
  bracketed_is_read (p ∷ ps) v opening closing opens closes h =
      let opened = (bytes_eq-Decides opening.bytes (codes "(")).1 opens in
      let ended = (bytes_eq-Decides closing.bytes (codes ")")).1 closes in
      rw (some_after ps closing) (bracketed_yes names opening (p ∷ ps) closing (p ∷ (ps ++ closing ∷ [])) refl opened ended ∙ h)

  pub definition_is_read : (parts : List Part) (v : ℤ) → IsDefinition names parts v → defined_value names parts ≡ Some v
  unfolding negative_value
  definition_is_read parts v (Alone part valued) = valued
  definition_is_read parts v (Negative {v = a} mark number is kind valued fits) = rw (is, kind, valued, within_of (neg_ℤ a) fits) refl
  definition_is_read parts v (Bracketed {ps = ps} opening opens sum closing closes) = bracketed_is_read ps v opening closing opens closes (sum_is_read names ps v sum)
