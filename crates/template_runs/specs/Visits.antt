-- The words that the machine comes by.
use Rattle.std.specs.Prelude.{◌≡◌, ℕ, zero, suc, ◌+◌, ◌≤◌, ◌<◌, List, [], ◌∷◌, ◌++◌}
use Rattle.rv_encode.specs.State.{Moment, Running, Over}
use Rattle.rv_encode.specs.Runs.{pc_of, next_moment}

abbrev pub pc_at : Moment → List ℕ
pc_at (Running s) = s.pc ∷ []
pc_at (Over ending output) = []

-- the pc of each instruction that is executed among the next n
abbrev pub visited : List ℕ → ℕ → Moment → List ℕ
visited code zero at = []
visited code (suc n) at = pc_at at ++ visited code n (next_moment code at)

-- they are those of words from the one number on to before the other, each behind those before it
abbrev pub Ascend : (from to : ℕ) → List ℕ → Type 0
Ascend from to [] = Unit {0}
Ascend from to (pc ∷ pcs) = (k : ℕ) × (from ≤ k) × (k < to) × (pc ≡ pc_of k) × Ascend (k + 1) to pcs
