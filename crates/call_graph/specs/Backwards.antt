-- The calls backwards.
use Rattle.std.specs.Prelude.{◌≡◌, ℕ, ◌<◌, List, length, get_or, Contains, ◌⊎◌}
use Rattle.call_graph.specs.Walks.{callees, Calls}

-- the same calls, from the called function to the one that calls it
pub record IsReversed (graph back : List (List ℕ)) : Type 0 where
  pub sized : length back ≡ length graph
  pub each : (f g : ℕ) → Calls graph f g → Calls back g f
  pub only : (f g : ℕ) → Calls back g f → Calls graph f g

-- so many of these functions know that one calls them
pub record AddsCaller (caller : ℕ) (called : List ℕ) (count : ℕ) (before after : List (List ℕ)) : Type 0 where
  pub sized : length after ≡ length before
  pub kept : (f g : ℕ) → Contains (callees before g) f → Contains (callees after g) f
  pub added : (k : ℕ) → k < count → get_or called k 0 < length before → Contains (callees after (get_or called k 0)) caller
  pub only : (f g : ℕ) → Contains (callees after g) f → Contains (callees before g) f ⊎ (f ≡ caller) × Contains called g
