-- Words that the machine comes by, one behind the other.
use Rattle.std.proofs.Common.{ℕ, ◌+◌, ◌≤◌, List, [], ◌∷◌, arith}
use Rattle.template_runs.specs.Visits.{Ascend}

pub ascend_within : (from low to high : ℕ) → low ≤ from → to ≤ high → (pcs : List ℕ) → Ascend from to pcs → Ascend low high pcs
ascend_within from low to high less more [] ascend = tt
ascend_within from low to high less more (pc ∷ pcs) ascend =
    let above = ascend.1 in
    let below = ascend.2 in
    (ascend.0, omega arith, omega arith, ascend.3, ascend_within (ascend.0 + 1) (ascend.0 + 1) to high (omega arith) more pcs ascend.4)
