-- Tokens in order, and the numbers of the sites at them.
use Rattle.std.proofs.Common.{◌≡◌, ℕ, zero, suc, ◌+◌, ◌<◌, ◌≤◌, List, [], ◌∷◌, ◌++◌, get_or, drop, map, length, refl, sym, ap, ◌∙◌, arith}
use Rattle.std.specs.Prelude.{slice_index_or}
use Rattle.std.specs.List.Sorted.{IsNonDecreasing, IsNonDecreasingBy}
use Rattle.std.proofs.lemmas.Bool.Decides.{nat_tests}
use Rattle.std.proofs.lemmas.List.{get_or-map, length-map, at_drop_more, at_drop_all, append-nil}
use Rattle.operator_meaning.specs.declared.object.Site.{Site}
use Rattle.tied_names.specs.Numbers.{token_of, number_in, exposed_in}
use Rattle.tied_names.specs.declared.note.Note.{Note}

pub number-is : (xs : List ℕ) (tok n : ℕ) → n ≤ length xs → ((k : ℕ) → k < n → slice_index_or xs k 0 < tok) → ((k : ℕ) → n ≤ k → k < length xs → tok ≤ slice_index_or xs k 0) → n ≡ number_in xs tok
number-is [] tok n less before after = omega arith
number-is (x ∷ xs) tok zero less before after = let stays : tok ≤ x = after zero (omega arith) (omega arith) in grind (arith, nat_tests)
number-is (x ∷ xs) tok (suc n) less before after =
    let passed : x < tok = before zero (omega arith) in
    let rest : n ≡ number_in xs tok = number-is xs tok n (omega arith) (λ k below. before (suc k) (omega arith)) (λ k above within. after (suc k) (omega arith) (omega arith)) in
    grind (arith, nat_tests)

pub tokens-in-order : (xs : List Site) → IsNonDecreasingBy token_of xs → IsNonDecreasing (map token_of xs)
tokens-in-order [] up i j d less within = absurd (omega arith)
tokens-in-order (x ∷ xs) up i j d less within =
    let long : length (map token_of (x ∷ xs)) ≡ length (x ∷ xs) = length-map (x ∷ xs) token_of in
    let at_i = get_or-map token_of (x ∷ xs) i x d (omega (arith, long)) in
    let at_j = get_or-map token_of (x ∷ xs) j x d (omega (arith, long)) in
    rw (at_i, at_j) (up i j x less (omega (arith, long)))

pub token-next : (xs : List Site) (i : ℕ) (x : Site) → i < length xs → x ≡ get_or xs i x → map token_of (drop i xs) ≡ x.tok ∷ map token_of (drop (i + 1) xs)
token-next xs i x less is = at_drop_more (map token_of) xs i x less ∙ ap (λ (y : Site). y.tok ∷ map token_of (drop (i + 1) xs)) (sym is)

pub token-end : (xs : List Site) (i : ℕ) → length xs ≤ i → map token_of (drop i xs) ≡ []
token-end xs i more = at_drop_all (map token_of) xs i more

pub exposed-next : (numbers : List ℕ) (xs : List Note) (i : ℕ) (x : Note) → i < length xs → x ≡ get_or xs i x → exposed_in numbers (drop i xs) ≡ exposed_in numbers (x ∷ drop (i + 1) xs)
exposed-next numbers xs i x less is = at_drop_more (exposed_in numbers) xs i x less ∙ ap (λ (y : Note). exposed_in numbers (y ∷ drop (i + 1) xs)) (sym is)

pub exposed-end : (numbers : List ℕ) (xs : List Note) (i : ℕ) → length xs ≤ i → exposed_in numbers (drop i xs) ≡ numbers
exposed-end numbers xs i more = at_drop_all (exposed_in numbers) xs i more

pub ruleset orders = (append-nil, token-next, token-end, exposed-next, exposed-end)
