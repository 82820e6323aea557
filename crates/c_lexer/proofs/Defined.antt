-- The map of the defined names, as the list of the definitions.
use Rattle.std.proofs.Common.{◌≡◌, ℕ, true, false, List, [], ◌∷◌, ◌++◌, map, Bor, codes, Option, Some, None, ℤ, pos, negsuc, refl, sym, ap, ◌∙◌, inl, inr}
use Rattle.std.specs.Map.{lookup}
use Rattle.std.specs.Str.{bytes_eq}
use Rattle.std.specs.Option.{is_some}
use Rattle.std.proofs.lemmas.Bool.{cases_Bool, cond-true, cond-false, true≢false}
use Rattle.std.proofs.lemmas.Option.{none-some}
use Rattle.indexmap.specs.IndexMap.{insert_entry}
use Rattle.c_lexer.specs.Names.{value_named, with_definition, predefined}

abbrev pub seen : List (Bor (List ℕ) × ℤ) → List (List ℕ × ℤ)
seen es = map (λ e. (e.0.now, e.1)) es

pub lookup_named : (es : List (Bor (List ℕ) × ℤ)) (name : List ℕ) → lookup (λ k. bytes_eq name k.now) es ≡ value_named (seen es) name
lookup_named [] name = refl
lookup_named (e ∷ es) name = rw (lookup_named es name) refl

pub inserted_new : (es : List (Bor (List ℕ) × ℤ)) (k : Bor (List ℕ)) (v : ℤ) → value_named (seen es) k.now ≡ None → seen (insert_entry (λ a b. bytes_eq a.now b.now) es k v) ≡ seen es ++ (k.now, v) ∷ []
inserted_new [] k v none = refl
inserted_new (e ∷ es) k v none =
    elim (cases_Bool (bytes_eq k.now e.0.now)) [
      | inl same ↦ absurd (none-some e.1 (sym none ∙ cond-true _ (Some e.1) (value_named (seen es) k.now) same))
      | inr other ↦
          let rest : value_named (seen es) k.now ≡ None = sym (cond-false _ (Some e.1) (value_named (seen es) k.now) other) ∙ none in
          rw (other, inserted_new es k v rest) refl
    ]

pub with_new : (ds : List (List ℕ × ℤ)) (name : List ℕ) (v : ℤ) → is_some (value_named ds name) ≡ false → with_definition ds name v ≡ ds ++ (name, v) ∷ []
unfolding with_definition
with_new ds name v none = rw none refl

pub with_old : (ds : List (List ℕ × ℤ)) (name : List ℕ) (v : ℤ) → is_some (value_named ds name) ≡ true → with_definition ds name v ≡ ds
unfolding with_definition
with_old ds name v some = rw some refl

none_from : (o : Option ℤ) → is_some o ≡ false → o ≡ None
none_from None e = refl
none_from (Some v) e = absurd (true≢false e)

-- a name that was not defined is defined last
pub defined_new : (es after : List (Bor (List ℕ) × ℤ)) (k : Bor (List ℕ)) (v : ℤ) → is_some (value_named (seen es) k.now) ≡ false → after ≡ insert_entry (λ a b. bytes_eq a.now b.now) es k v
    → seen after ≡ with_definition (seen es) k.now v
defined_new es after k v none inserted =
    ap seen inserted ∙ inserted_new es k v (none_from (value_named (seen es) k.now) none) ∙ sym (with_new (seen es) k.now v none)

-- the four definitions before a text
pub predefined_steps : (a b c d e : List (List ℕ × ℤ)) → a ≡ [] → b ≡ with_definition a (codes "MAX_16") (pos 32767) → c ≡ with_definition b (codes "MIN_16") (negsuc 32767)
    → d ≡ with_definition c (codes "MAX_32") (pos 2147483647) → e ≡ with_definition d (codes "MIN_32") (negsuc 2147483647) → e ≡ predefined
unfolding with_definition
predefined_steps a b c d e p q r s t = rw (t, s, r, q, p) refl
