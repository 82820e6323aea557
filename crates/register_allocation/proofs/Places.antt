-- Where what a number gives stands among what all numbers give, and which number gave what stands at a place.
use Rattle.std.proofs.Common.{◌≡◌, ℕ, zero, suc, ◌<◌, ◌≤◌, List, [], ◌∷◌, ◌++◌, arith, length, refl, sym, ap, ◌∙◌, inl, inr}
use Rattle.std.specs.Prelude.{Option, Some, None, slice_get}
use Rattle.std.proofs.lemmas.Option.{slice_get_within}
use Rattle.std.proofs.lemmas.Bool.{cases_lt}
use Rattle.std.proofs.lemmas.List.{append-nil}
use Rattle.register_allocation.specs.Collected.{one_or_none, collected}

pub get-front : {A : Type 0} (xs ys : List A) (i : ℕ) (x : A) → slice_get xs i ≡ Some x → slice_get (xs ++ ys) i ≡ Some x
get-front [] ys i x is = let no : None ≡ Some x = is in cc
get-front (y ∷ xs) ys zero x is = is
get-front (y ∷ xs) ys (suc i) x is = get-front xs ys i x is

pub get-end : {A : Type 0} (xs : List A) (x : A) → slice_get (xs ++ x ∷ []) (length xs) ≡ Some x
get-end [] x = refl
get-end (y ∷ xs) x = get-end xs x

pub at-place : {A : Type 0} (given : ℕ → Option A) (number total : ℕ) (x : A) → given number ≡ Some x → number < total → slice_get (collected given total) (length (collected given number)) ≡ Some x
at-place given number zero x is low = absurd (omega arith)
at-place given number (suc total) x is low = elim (cases_lt number total) [
  | inl below ↦ get-front (collected given total) (one_or_none (given total)) (length (collected given number)) x (at-place given number total x is below)
  | inr above ↦
      let last : number ≡ total = omega arith in
      let gives : given total ≡ Some x = ap given (sym last) ∙ is in
      ap (λ k. slice_get (collected given total ++ one_or_none (given total)) (length (collected given k))) last
      ∙ ap (λ o. slice_get (collected given total ++ one_or_none o) (length (collected given total))) gives ∙ get-end (collected given total) x
]

-- what a later number gives stands later
pub places-rise : {A : Type 0} (given : ℕ → Option A) (number total : ℕ) (x : A) → given number ≡ Some x → number < total → length (collected given number) < length (collected given total)
places-rise given number total x is low = slice_get_within (collected given total) (length (collected given number)) x (at-place given number total x is low)

-- what stands at a place is given by a number
pub record IsGivenBy {A : Type 0} (given : ℕ → Option A) (total place : ℕ) (x : A) : Type 0 where
  pub number : ℕ
  pub below : number < total
  pub gives : given number ≡ Some x
  pub stands : place ≡ length (collected given number)

one-more : {A : Type 0} (given : ℕ → Option A) (total place : ℕ) (x : A) → IsGivenBy given total place x → IsGivenBy given (suc total) place x
one-more given total place x by = record { number = by.number; below = omega (arith, by.below); gives = by.gives; stands = by.stands }

get-within : {A : Type 0} (xs ys : List A) (i : ℕ) (x : A) → i < length xs → slice_get (xs ++ ys) i ≡ Some x → slice_get xs i ≡ Some x
get-within [] ys i x low is = absurd (omega arith)
get-within (y ∷ xs) ys zero x low is = is
get-within (y ∷ xs) ys (suc i) x low is = get-within xs ys i x (omega arith) is

get-past : {A : Type 0} (xs : List A) (y : A) (i : ℕ) (x : A) → length xs ≤ i → slice_get (xs ++ y ∷ []) i ≡ Some x → (i ≡ length xs) × (y ≡ x)
get-past [] y zero x past is = (refl, (let same : Some y ≡ Some x = is in cc))
get-past [] y (suc i) x past is = let no : None ≡ Some x = is in cc
get-past (z ∷ xs) y zero x past is = absurd (omega arith)
get-past (z ∷ xs) y (suc i) x past is = let rest = get-past xs y i x (omega arith) is in (ap suc rest.0, rest.1)

given-last : {A : Type 0} (given : ℕ → Option A) (total place : ℕ) (x : A) (last : Option A)
    → (slice_get (collected given total) place ≡ Some x → IsGivenBy given total place x) → given total ≡ last
    → slice_get (collected given total ++ one_or_none last) place ≡ Some x → IsGivenBy given (suc total) place x
given-last given total place x None earlier e is =
    one-more given total place x (earlier (ap (λ xs. slice_get xs place) (sym (append-nil (collected given total))) ∙ is))
given-last given total place x (Some y) earlier e is = elim (cases_lt place (length (collected given total))) [
  | inl below ↦ one-more given total place x (earlier (get-within (collected given total) (y ∷ []) place x below is))
  | inr above ↦
      let here = get-past (collected given total) y place x above is in
      record { number = total; below = omega arith; gives = e ∙ ap Some here.1; stands = here.0 }
]

pub given-at : {A : Type 0} (given : ℕ → Option A) (total place : ℕ) (x : A) → slice_get (collected given total) place ≡ Some x → IsGivenBy given total place x
given-at given zero place x is = let no : None ≡ Some x = is in cc
given-at given (suc total) place x is = given-last given total place x (given total) (given-at given total place x) refl is
