-- How the count of failed calls grows.
use Rattle.std.proofs.Common.{◌≡◌, ℕ, ◌+◌, ◌≤◌, nat_lt, List, [], ◌∷◌, Option, Some, IsSome, true, false, cond, arith, refl, subst}
use Rattle.std.proofs.lemmas.List.Sums.{sum_by-cons}
use Rattle.std.specs.Option.{option_map}
use Rattle.std.specs.List.{find}
use Rattle.std.proofs.lemmas.Bool.Decides.{nat_tests}
use Rattle.std.specs.Bool.{◌==◌}
use Rattle.store_io.specs.declared.failing.Failing.{Failing}
use Rattle.store_io.specs.Outside.{Rose}
use Rattle.store_io.specs.Failing.{failing_at, failed_before}

-- one call is no less counted later
counted_later : (x c d : ℕ) → c ≤ d → cond (nat_lt x c) 1 0 ≤ cond (nat_lt x d) 1 0
counted_later x c d h = grind (arith, nat_tests)

-- a call is counted once it is made
counted_made : (x c : ℕ) → (x == c) ≡ true → cond (nat_lt x c) 1 0 + 1 ≤ cond (nat_lt x (c + 1)) 1 0
counted_made x c h = grind (arith, nat_tests)

-- a call counts once, and the rest by themselves
counted_first : (one : Failing) (failing : List Failing) (c : ℕ) → failed_before (one ∷ failing) c ≡ cond (nat_lt one.call c) 1 0 + failed_before failing c
counted_first one failing c = sum_by-cons (λ (f : Failing). cond (nat_lt f.call c) 1 0) one failing

-- no fewer calls have failed later
pub failed_before-later : (failing : List Failing) (c d : ℕ) → c ≤ d → failed_before failing c ≤ failed_before failing d
failed_before-later [] c d h = omega arith
failed_before-later (one ∷ failing) c d h =
    rw (counted_first one failing c, counted_first one failing d)
    (omega (arith, counted_later one.call c d h, failed_before-later failing c d h))

-- one more has failed after a call that is listed
failed_before-listed : (failing : List Failing) (c : ℕ) → IsSome (failing_at failing c) → failed_before failing c + 1 ≤ failed_before failing (c + 1)
failed_before-listed [] c some = cc
failed_before-listed (one ∷ failing) c some =
    rw (counted_first one failing c, counted_first one failing (c + 1))
    (elim (one.call == c) as (λ b. (one.call == c) ≡ b → IsSome (option_map (λ (f : Failing). f.taken) (cond b (Some one) (find (λ f. f.call == c) failing))) → (cond (nat_lt one.call c) 1 0 + failed_before failing c) + 1 ≤ cond (nat_lt one.call (c + 1)) 1 0 + failed_before failing (c + 1)) [
      | true ↦ λ same _. omega (arith, counted_made one.call c same, failed_before-later failing c (c + 1) (omega arith))
      | false ↦ λ _ rest. omega (arith, counted_later one.call c (c + 1) (omega arith), failed_before-listed failing c rest)
    ] refl some)

-- the count rises where the call was found in the list
pub rose-listed : (listed failing : List Failing) (c next : ℕ) (found : Option ℕ) → found ≡ failing_at listed c → listed ≡ failing → next ≡ c + 1 → IsSome found → Rose (failed_before failing c) (failed_before failing next)
rose-listed listed failing c next found is same after some =
    let here : IsSome (failing_at failing c) = subst (λ (fs : List Failing). IsSome (failing_at fs c)) same (subst (λ (o : Option ℕ). IsSome o) is some) in
    rw after (omega (arith, failed_before-listed failing c here))
