-- Tokens that rise stand before exactly the later ones.
use Rattle.std.proofs.Common.{◌≡◌, ℕ, zero, suc, ◌+◌, ◌<◌, ◌≤◌, List, length, sym, ap, inl, inr, arith}
use Rattle.std.specs.Prelude.{nat_lt, slice_index_or}
use Rattle.std.specs.List.Sorted.{IsStrictlyIncreasing}
use Rattle.std.proofs.lemmas.Bool.{cases_Bool}
use Rattle.std.proofs.lemmas.Bool.Decides.{nat_tests}
use Rattle.tied_names.specs.Numbers.{number_in}
use Rattle.tied_names.proofs.InOrder.{number-is}

next : (xs : List ℕ) → IsStrictlyIncreasing xs → (i j : ℕ) → j ≡ i + 1 → j < length xs → slice_index_or xs i 0 < slice_index_or xs j 0
next xs up i j is within =
    let less : slice_index_or xs i 0 < slice_index_or xs (i + 1) 0 = up i (omega (arith, is)) in
    omega (arith, less, ap (λ (k : ℕ). slice_index_or xs k 0) is)

rises : (xs : List ℕ) → IsStrictlyIncreasing xs → (i j : ℕ) → i < j → j < length xs → slice_index_or xs i 0 < slice_index_or xs j 0
rises xs up i zero less within = absurd (omega arith)
rises xs up i (suc j) less within =
    let last : slice_index_or xs j 0 < slice_index_or xs (suc j) 0 = next xs up j (suc j) (omega arith) within in
    elim (cases_Bool (nat_lt i j)) [
      | inl before ↦
          let apart : i < j = grind (arith, nat_tests) in
          omega (arith, last, rises xs up i j apart (omega arith))
      | inr other ↦
          let stays : j ≤ i = grind (arith, nat_tests) in
          let same : i ≡ j = omega arith in
          omega (arith, last, ap (λ (k : ℕ). slice_index_or xs k 0) same)
    ]

pub number-place : (xs : List ℕ) → IsStrictlyIncreasing xs → (place : ℕ) → place < length xs → number_in xs (slice_index_or xs place 0) ≡ place
number-place xs up place within =
    sym (number-is xs (slice_index_or xs place 0) place (omega arith) (λ k less. rises xs up k place less within) (λ k more inside. elim (cases_Bool (nat_lt place k)) [
      | inl before ↦
          let apart : place < k = grind (arith, nat_tests) in
          omega (arith, rises xs up place k apart inside)
      | inr other ↦
          let stays : k ≤ place = grind (arith, nat_tests) in
          let same : place ≡ k = omega arith in
          omega (arith, ap (λ (i : ℕ). slice_index_or xs i 0) same)
    ]))
