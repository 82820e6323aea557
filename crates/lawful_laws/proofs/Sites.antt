-- Sites in the order of their tokens, no two of which are one.
use Rattle.std.proofs.Common.{◌≡◌, ℕ, ◌+◌, ◌<◌, ◌≤◌, List, [], ◌∷◌, map, length, inl, inr, arith}
use Rattle.std.specs.Prelude.{nat_lt, slice_index_or}
use Rattle.std.specs.List.Sorted.{IsNonDecreasingBy, IsStrictlyIncreasing}
use Rattle.std.proofs.lemmas.Bool.{cases_Bool}
use Rattle.std.proofs.lemmas.Bool.Decides.{nat_tests}
use Rattle.std.proofs.lemmas.List.{length-map, get_or-map}
use Rattle.operator_meaning.specs.declared.object.Site.{Site}
use Rattle.lawful_sources.specs.Lawful.{token_of}

strict : (a b : ℕ) → a ≤ b → (a ≡ b → ⊥) → a < b
strict a b most apart =
    elim (cases_Bool (nat_lt a b)) [
      | inl before ↦ grind (arith, nat_tests)
      | inr other ↦
          let least : b ≤ a = grind (arith, nat_tests) in
          absurd (apart (omega arith))
    ]

pub tokens-rise : (sites : List Site) → IsNonDecreasingBy token_of sites
    → ((i j : ℕ) (d : Site) → i < j → j < length sites → (slice_index_or sites i d).tok ≡ (slice_index_or sites j d).tok → ⊥) → IsStrictlyIncreasing (map token_of sites)
tokens-rise [] up own k within = absurd (omega arith)
tokens-rise (s ∷ rest) up own k within =
    let few : k + 1 < length (s ∷ rest) = omega (arith, length-map (s ∷ rest) token_of, within) in
    let most : token_of (slice_index_or (s ∷ rest) k s) ≤ token_of (slice_index_or (s ∷ rest) (k + 1) s) = up k (k + 1) s (omega arith) few in
    let less : token_of (slice_index_or (s ∷ rest) k s) < token_of (slice_index_or (s ∷ rest) (k + 1) s) = strict _ _ most (own k (k + 1) s (omega arith) few) in
    omega (arith, less, get_or-map token_of (s ∷ rest) k s 0 (omega (arith, few)), get_or-map token_of (s ∷ rest) (k + 1) s 0 few)
