-- What holds of the lists of all elements, one after the other, holds of the list of each.
use Rattle.std.proofs.Common.{◌≡◌, ℕ, zero, suc, List, [], ◌∷◌, ◌++◌, subst}
use Rattle.std.specs.Prelude.{flat_map, slice_get, Some}

module _ {A B : Type 0} (Holds : List B → Type 0) (first : (xs ys : List B) → Holds (xs ++ ys) → Holds xs) (rest : (xs ys : List B) → Holds (xs ++ ys) → Holds ys) (f : A → List B) where
  pub in-part : (xs : List A) → Holds (flat_map f xs) → (k : ℕ) (x : A) → slice_get xs k ≡ Some x → Holds (f x)
  in-part [] all k x there = absurd (let e = there in cc)
  in-part (y ∷ ys) all zero x there = let same : y ≡ x = cc in subst (λ (z : A). Holds (f z)) same (first (f y) _ all)
  in-part (y ∷ ys) all (suc k) x there = in-part ys (rest (f y) _ all) k x there
