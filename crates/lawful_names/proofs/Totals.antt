-- Sums over lists.
use Rattle.std.proofs.Common.{◌≡◌, ℕ, ◌+◌, ◌≤◌, List, [], ◌∷◌, ◌++◌, Bool, true, false, length, refl, arith}
use Rattle.std.specs.Prelude.{if◌then◌else◌}
use Rattle.std.specs.List.{filter, list_all, sum_by}
use Rattle.std.proofs.lemmas.List.Sums.{sum_by-append}

abbrev pub total : {A : Type 0} → (A → ℕ) → List A → ℕ
total measure [] = 0
total measure (x ∷ xs) = measure x + total measure xs

pub total-append : {A : Type 0} (measure : A → ℕ) (xs ys : List A) → total measure (xs ++ ys) ≡ total measure xs + total measure ys
total-append measure [] ys = omega arith
total-append measure (x ∷ xs) ys = omega (arith, total-append measure xs ys)

pub sum-total : {A : Type 0} (measure : A → ℕ) (xs : List A) → sum_by measure xs ≡ total measure xs
sum-total measure [] = refl
sum-total measure (x ∷ xs) =
    let parts : sum_by measure (x ∷ xs) ≡ sum_by measure (x ∷ []) + sum_by measure xs = sum_by-append measure (x ∷ []) xs in
    let one : sum_by measure (x ∷ []) ≡ measure x = omega arith in
    let rest : sum_by measure xs ≡ total measure xs = sum-total measure xs in omega arith

abbrev pub one_if_passed : {A : Type 0} → (A → Bool) → A → ℕ
one_if_passed test x = if test x then 1 else 0

count-by : {A : Type 0} (test : A → Bool) (x : A) (xs : List A) (passes : Bool) → test x ≡ passes → length (filter test xs) ≡ total (one_if_passed test) xs → length (filter test (x ∷ xs)) ≡ (if passes then 1 else 0) + total (one_if_passed test) xs
count-by test x xs true is p = rw is (omega arith)
count-by test x xs false is p = rw is (omega arith)

pub count-total : {A : Type 0} (test : A → Bool) (xs : List A) → length (filter test xs) ≡ total (one_if_passed test) xs
count-total test [] = refl
count-total test (x ∷ xs) = count-by test x xs (test x) refl (count-total test xs)

none-by : (passes : Bool) (rest : ℕ) → (if passes then 0 else 1) + rest ≤ 0 → (passes ≡ true) × (rest ≤ 0)
none-by true rest p = (refl, omega arith)
none-by false rest p = absurd (omega arith)

-- where none fails, all pass
pub all-pass : {A : Type 0} (test : A → Bool) (xs : List A) → total (λ x. if test x then 0 else 1) xs ≤ 0 → list_all test xs ≡ true
all-pass test [] p = refl
all-pass test (x ∷ xs) p = let parts : (test x ≡ true) × (total (λ x. if test x then 0 else 1) xs ≤ 0) = none-by (test x) _ p in rw (parts.0, all-pass test xs parts.1) refl
