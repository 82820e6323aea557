-- How a run goes from moment to moment.
use Rattle.std.proofs.Common.{◌≡◌, ℕ, zero, suc, ◌+◌, ℤ, List, refl, ap, ◌∙◌, arith}
use Rattle.rv_encode.specs.State.{Ending, Moment, Over}
use Rattle.rv_encode.specs.Runs.{next_moment, moment_after}

-- so many instructions and then so many lead where all of them do
pub moment_after_add : (code : List ℕ) (m n : ℕ) (at : Moment) → moment_after code (m + n) at ≡ moment_after code n (moment_after code m at)
moment_after_add code zero n at = let e : 0 + n ≡ n = omega arith in ap (λ k. moment_after code k at) e
moment_after_add code (suc m) n at =
    let e : suc m + n ≡ suc (m + n) = omega arith in
    ap (λ k. moment_after code k at) e ∙ moment_after_add code m n (next_moment code at)

-- one instruction more
pub moment_after_more : (code : List ℕ) (n : ℕ) (at : Moment) → moment_after code (n + 1) at ≡ next_moment code (moment_after code n at)
moment_after_more code n at = moment_after_add code n 1 at

-- more instructions change nothing of a run that is over
pub over_stays : (code : List ℕ) (n : ℕ) (ending : Ending) (output : List ℤ) → moment_after code n (Over ending output) ≡ Over ending output
over_stays code zero ending output = refl
over_stays code (suc n) ending output = over_stays code n ending output
