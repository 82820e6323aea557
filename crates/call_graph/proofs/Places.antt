-- What stands at a place of a list, or a default past its end, as one place is set.
use Rattle.std.proofs.Common.{◌≡◌, ◌≢◌, ℕ, zero, suc, ◌<◌, List, [], ◌∷◌, arith, length, get_or, sym, ap, ◌∙◌, inl, inr, get_or-set_same, get_or-set_other}
use Rattle.std.specs.Prelude.{Option, Some, None, unwrap_or, slice_get, slice_set, Contains}
use Rattle.std.proofs.lemmas.Option.{unwrap_or-slice_get, slice_get_within, slice_get-get_or, slice_get_past}
use Rattle.std.proofs.lemmas.Bool.{cases_lt}

abbrev pub read : {A : Type 0} → A → List A → ℕ → A
read d xs i = unwrap_or (slice_get xs i) d

pub read-set_same : {A : Type 0} (d : A) (xs : List A) (i : ℕ) (x : A) → i < length xs → read d (slice_set xs i x) i ≡ x
read-set_same d xs i x own = unwrap_or-slice_get (slice_set xs i x) i d ∙ get_or-set_same xs i x d own

pub read-set_other : {A : Type 0} (d : A) (xs : List A) (i j : ℕ) (x : A) → j ≢ i → read d (slice_set xs i x) j ≡ read d xs j
read-set_other d xs i j x other =
    unwrap_or-slice_get (slice_set xs i x) j d ∙ get_or-set_other xs i j x d other ∙ sym (unwrap_or-slice_get xs j d)

pub read-at : {A : Type 0} (d : A) (xs : List A) (i : ℕ) (x : A) → Some x ≡ slice_get xs i → (read d xs i ≡ x) × (i < length xs)
read-at d xs i x is = (ap (λ o. unwrap_or o d) (sym is), slice_get_within xs i x (sym is))

pub read-past : {A : Type 0} (d : A) (xs : List A) (i : ℕ) → None ≡ slice_get xs i → i < length xs → ⊥
read-past d xs i is within = let e : None ≡ Some (get_or xs i d) = is ∙ slice_get-get_or xs i d within in cc

pub read-within : {A : Type 0} (xs : List (Option A)) (i : ℕ) (x : A) → read None xs i ≡ Some x → i < length xs
read-within xs i x is = elim (cases_lt i (length xs)) [
  | inl within ↦ within
  | inr past ↦ let no : None ≡ Some x = sym (ap (λ o. unwrap_or o None) (slice_get_past xs i past)) ∙ is in cc
]

pub only-one : (f g : ℕ) → Contains (f ∷ []) g → g ≡ f
only-one f g (zero, within, is) = sym is
only-one f g (suc k, within, is) = absurd (omega (arith, within))
