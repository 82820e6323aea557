-- Sites are few: their tokens rise, and each is one of the text.
use Rattle.std.proofs.Common.{◌≡◌, ℕ, zero, suc, ◌+◌, ◌<◌, ◌≤◌, List, [], ◌∷◌, map, length, subst, arith}
use Rattle.std.specs.Prelude.{slice_index, slice_index_or}
use Rattle.std.specs.List.Sorted.{IsStrictlyIncreasing}
use Rattle.std.proofs.lemmas.List.{length-map, get_or-map}
use Rattle.operator_meaning.specs.declared.object.Site.{Site}
use Rattle.lawful_sources.specs.Lawful.{token_of}
use Rattle.lawful_laws.proofs.Sites.{tokens-rise}
use Rattle.lawful_texts.proofs.Sites.{own-tokens, at-a-token}
use Rattle.lawful_typed.specs.Laws.{SitesAreFew}

-- a number that rises is no less than its place
rises-far : (xs : List ℕ) → IsStrictlyIncreasing xs → (k : ℕ) → k < length xs → k ≤ slice_index xs k
rises-far xs up zero within = omega arith
rises-far xs up (suc k) within =
    let next : k + 1 ≡ suc k = omega arith in
    subst (λ (j : ℕ). suc k ≤ slice_index xs j) next (omega (arith, rises-far xs up k (omega arith), up k (omega arith)))

below : (sites : List Site) (n : ℕ) → IsStrictlyIncreasing (map token_of sites) → ((j : ℕ) (d : Site) → j < length sites → (slice_index_or sites j d).tok < n) → length sites ≤ n
below [] n up at = omega arith
below (s ∷ sites) n up at =
    let k : ℕ = length sites in
    omega (arith, rises-far (map token_of (s ∷ sites)) up k (omega (arith, length-map (s ∷ sites) token_of)), get_or-map token_of (s ∷ sites) k s 0 (omega arith), at k s (omega arith))

pub sites-few : SitesAreFew
sites-few program tokens typed spells few tied =
    omega (arith, few, below typed.sites (length tokens.list) (tokens-rise typed.sites tied.in_order (own-tokens program tokens typed spells tied)) (at-a-token program tokens typed spells tied))
