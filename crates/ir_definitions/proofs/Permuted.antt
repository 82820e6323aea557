-- What stands in the elements of a list stands there in another order where these change places.
use Rattle.std.proofs.Common.{◌<◌, ℕ, zero, suc, List, [], ◌∷◌, ◌++◌, length, get_or, set, flat_map, swap, IsPermutation, append_assoc, subst, arith}
use Rattle.std.proofs.lemmas.List.Sorted.{IsPermutation-refl, IsPermutation-sym, IsPermutation-trans, IsPermutation-keeps, IsPermutation-append_left, IsPermutation-append_right, IsPermutation-append_comm}
use Rattle.std.proofs.lemmas.List.Edits.{swap_is}

exchanged : {A : Type 0} (xs ys zs : List A) → IsPermutation (xs ++ (ys ++ zs)) (ys ++ (xs ++ zs))
exchanged xs ys zs =
    subst (λ l. IsPermutation l (ys ++ (xs ++ zs))) (append_assoc xs ys zs)
    (subst (IsPermutation ((xs ++ ys) ++ zs)) (append_assoc ys xs zs) (IsPermutation-append_left zs _ _ (IsPermutation-append_comm xs ys)))

module _ {X A : Type 0} (f : X → List A) where
  -- one element takes the place of another
  put : (xs : List X) (i : ℕ) (x d : X) → i < length xs → IsPermutation (f (get_or xs i d) ++ flat_map f (set xs i x)) (f x ++ flat_map f xs)
  put [] i x d low = absurd (omega (arith, low))
  put (y ∷ xs) zero x d low = exchanged (f y) (f x) (flat_map f xs)
  put (y ∷ xs) (suc i) x d low =
      IsPermutation-trans _ _ _ (exchanged (f (get_or xs i d)) (f y) (flat_map f (set xs i x)))
      (IsPermutation-trans _ _ _ (IsPermutation-append_right (f y) _ _ (put xs i x d (omega (arith, low)))) (exchanged (f y) (f x) (flat_map f xs)))

  -- two change places
  two : (xs : List X) (i j : ℕ) (d : X) → i < length xs → j < length xs → IsPermutation (flat_map f xs) (flat_map f (set (set xs i (get_or xs j d)) j (get_or xs i d)))
  two [] i j d low other = absurd (omega (arith, low))
  two (x ∷ xs) zero zero d low other = IsPermutation-refl _
  two (x ∷ xs) zero (suc j) d low other = IsPermutation-sym _ _ (put xs j x d (omega (arith, other)))
  two (x ∷ xs) (suc i) zero d low other = IsPermutation-sym _ _ (put xs i x d (omega (arith, low)))
  two (x ∷ xs) (suc i) (suc j) d low other = IsPermutation-append_right (f x) _ _ (two xs i j d (omega (arith, low)) (omega (arith, other)))

  swapped : (xs : List X) (i j : ℕ) → i < length xs → j < length xs → IsPermutation (flat_map f xs) (flat_map f (swap xs i j))
  swapped [] i j low other = absurd (omega (arith, low))
  swapped (x ∷ xs) i j low other = subst (λ l. IsPermutation (flat_map f (x ∷ xs)) (flat_map f l)) (swap_is (x ∷ xs) i j x low other) (two (x ∷ xs) i j x low other)

  pub flat_map-permuted : (xs ys : List X) → IsPermutation xs ys → IsPermutation (flat_map f xs) (flat_map f ys)
  flat_map-permuted xs ys = IsPermutation-keeps xs (λ l. IsPermutation (flat_map f xs) (flat_map f l)) (IsPermutation-refl _)
      (λ l i j low other same. IsPermutation-trans _ _ _ same (swapped l i j low other)) ys
