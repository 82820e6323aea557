-- Places of numbers in a list, and what stands at them.
use Rattle.std.proofs.Common.{◌≡◌, ◌<◌, ℕ, zero, suc, Bool, true, false, List, [], ◌∷◌, Option, Some, None, length, get_or, Contains, position, nat_eq, refl, sym, ap, ◌∙◌, subst, arith, true≢false, eq-eqb, if◌then◌else◌}
use Rattle.std.specs.List.{filter_map, cons_option, position_or_len}
use Rattle.std.proofs.lemmas.Bool.{eqb-true, lt-ltb}
use Rattle.std.proofs.lemmas.List.Elements.{Contains-append_right}
use Rattle.std.proofs.lemmas.List.Quantifiers.{position-Some}

pub further : {A : Type 0} (a : A) (xs : List A) (x : A) → Contains xs x → Contains (a ∷ xs) x
further a xs x there = Contains-append_right (a ∷ []) xs x there

pub here : {A : Type 0} (x : A) (xs : List A) → Contains (x ∷ xs) x
here x xs = (0, omega arith, refl)

-- the first of a list, or one of the others
pub first_or : {A : Type 0} (P : A → Type 0) (a x : A) (xs : List A) → Contains (a ∷ xs) x → (a ≡ x → P x) → (Contains xs x → P x) → P x
first_or P a x xs (zero, low, is) one other = one is
first_or P a x xs (suc k, low, is) one other = other (k, omega arith, is)

module _ (h : ℕ → Option ℕ) where
  kept : (a : ℕ) (xs : List ℕ) (y : ℕ) → h a ≡ Some y → Contains (filter_map h (a ∷ xs)) y
  kept a xs y is = subst (λ o. Contains (cons_option o (filter_map h xs)) y) (sym is) (here y (filter_map h xs))

  passed : (o : Option ℕ) (ys : List ℕ) (y : ℕ) → Contains ys y → Contains (cons_option o ys) y
  passed None ys y there = there
  passed (Some x) ys y there = further x ys y there

  pub in_filter_map : (xs : List ℕ) (x y : ℕ) → Contains xs x → h x ≡ Some y → Contains (filter_map h xs) y
  in_filter_map [] x y there is = absurd (let low = there.1 in omega (arith, low))
  in_filter_map (a ∷ xs) x y there is =
      first_or (λ z. h z ≡ Some y → Contains (filter_map h (a ∷ xs)) y) a x xs there
      (λ same found. kept a xs y (ap h same ∙ found))
      (λ later found. passed (h a) (filter_map h xs) y (in_filter_map xs x y later found)) is

  pub from_filter_map : (xs : List ℕ) (y : ℕ) → Contains (filter_map h xs) y → (x : ℕ) × Contains xs x × (h x ≡ Some y)
  from_filter_map [] y there = absurd (let low = there.1 in omega (arith, low))
  from_filter_map (a ∷ xs) y there = by (h a) refl (λ found. from_filter_map xs y found)
    where
      by : (o : Option ℕ) → h a ≡ o → (Contains (filter_map h xs) y → (x : ℕ) × Contains xs x × (h x ≡ Some y)) → (x : ℕ) × Contains (a ∷ xs) x × (h x ≡ Some y)
      by None none rest = let found = rest (subst (λ o. Contains (cons_option o (filter_map h xs)) y) none there) in (found.0, further a xs found.0 found.1, found.2)
      by (Some z) some rest =
          first_or (λ v. (Contains (filter_map h xs) v → (x : ℕ) × Contains xs x × (h x ≡ Some v)) → (x : ℕ) × Contains (a ∷ xs) x × (h x ≡ Some v)) z y (filter_map h xs)
          (subst (λ o. Contains (cons_option o (filter_map h xs)) y) some there)
          (λ same more. (a, here a xs, some ∙ ap Some same)) (λ later more. let found = more later in (found.0, further a xs found.0 found.1, found.2)) rest

-- a number that stands in a list has a place, and it stands there
low_place : (x : ℕ) (xs : List ℕ) → Contains xs x → position_or_len (nat_eq x) xs < length xs
low_place x [] there = absurd (let low = there.1 in omega (arith, low))
low_place x (a ∷ xs) there = by (nat_eq x a) refl (λ found. low_place x xs found)
  where
    by : (b : Bool) → nat_eq x a ≡ b → (Contains xs x → position_or_len (nat_eq x) xs < length xs) → position_or_len (nat_eq x) (a ∷ xs) < length (a ∷ xs)
    by true equal rest = rw equal (omega arith)
    by false differs rest =
        let low : position_or_len (nat_eq x) xs < length xs =
        first_or (λ (z : ℕ). z ≡ x → position_or_len (nat_eq x) xs < length xs) a x xs there
        (λ same is. absurd (true≢false (sym (eq-eqb x a (sym same)) ∙ differs))) (λ later is. rest later) refl in
        rw differs (omega (arith, low))

pub place_found : (x : ℕ) (xs : List ℕ) → Contains xs x → (p : ℕ) × (position (nat_eq x) xs ≡ Some p)
place_found x xs there =
    let low = low_place x xs there in
    (position_or_len (nat_eq x) xs, ap (λ b. if b then Some (position_or_len (nat_eq x) xs) else None) (lt-ltb _ _ low))

pub at_place : (x p : ℕ) (xs : List ℕ) → position (nat_eq x) xs ≡ Some p → (p < length xs) × (get_or xs p 0 ≡ x)
at_place x p xs found = let there = position-Some (nat_eq x) xs p 0 found in (there.0, sym (eqb-true x (get_or xs p 0) there.1))
