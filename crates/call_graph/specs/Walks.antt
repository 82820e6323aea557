-- Walks along calls. A graph lists for each function, by its number, the functions that it calls.
use Rattle.std.specs.Prelude.{◌≡◌, ℕ, zero, suc, ◌<◌, ◌≤◌, List, [], unwrap_or, slice_get, length, Contains}

abbrev pub callees : List (List ℕ) → ℕ → List ℕ
callees graph f = unwrap_or (slice_get graph f) []

abbrev pub Calls : List (List ℕ) → ℕ → ℕ → Type 0
Calls graph f g = Contains (callees graph f) g × (g < length graph)

-- so many calls lead from f to g, one after the other
abbrev pub Walk : List (List ℕ) → ℕ → ℕ → ℕ → Type 0
Walk graph zero f g = f ≡ g
Walk graph (suc n) f g = (h : ℕ) × Calls graph f h × Walk graph n h g

-- one call or more lead from f to g
abbrev pub Reaches : List (List ℕ) → ℕ → ℕ → Type 0
Reaches graph f g = (n : ℕ) × Walk graph (suc n) f g

-- no fewer calls than these, which are one or more, lead from f to g
pub record IsDistance (graph : List (List ℕ)) (count f g : ℕ) : Type 0 where
  pub some : 1 ≤ count
  pub walk : Walk graph count f g
  pub least : (n : ℕ) → 1 ≤ n → n < count → Walk graph n f g → ⊥
