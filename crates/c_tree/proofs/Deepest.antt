-- The greatest depth in a list.
use Rattle.std.proofs.Common.{◌≡◌, ℕ, max, ◌≤◌, List, [], ◌∷◌, ◌++◌, All, arith}
use Rattle.std.proofs.lemmas.List.Elements.{All-nil, All-cons, All-head, All-tail}
use Rattle.c_tree.specs.Depth.{deepest}

pub deepest-append : {A : Type 0} (depth : A → ℕ) (xs ys : List A) → deepest depth (xs ++ ys) ≡ max (deepest depth xs) (deepest depth ys)
deepest-append depth [] ys = omega arith
deepest-append depth (x ∷ xs) ys = omega (arith, deepest-append depth xs ys)

-- the deepest is within a bound where each is
pub deepest-within : {A : Type 0} (depth : A → ℕ) (bound : ℕ) (xs : List A) → All (λ x. depth x ≤ bound) xs → deepest depth xs ≤ bound
deepest-within depth bound [] all = omega arith
deepest-within depth bound (x ∷ xs) all =
    omega (arith, All-head (λ x. depth x ≤ bound) x xs all, deepest-within depth bound xs (All-tail (λ x. depth x ≤ bound) x xs all))

-- and each is where the deepest is
pub within-deepest : {A : Type 0} (depth : A → ℕ) (bound : ℕ) (xs : List A) → deepest depth xs ≤ bound → All (λ x. depth x ≤ bound) xs
within-deepest depth bound [] low = All-nil (λ x. depth x ≤ bound)
within-deepest depth bound (x ∷ xs) low = All-cons (λ x. depth x ≤ bound) x xs (omega (arith, low)) (within-deepest depth bound xs (omega (arith, low)))
