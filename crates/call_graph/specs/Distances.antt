-- How many calls lead from one function to each.
use Rattle.std.specs.Prelude.{◌≡◌, ℕ, List, Option, Some, None, unwrap_or, slice_get}
use Rattle.call_graph.specs.Walks.{Reaches, IsDistance}

abbrev pub distance_in : List (Option ℕ) → ℕ → Option ℕ
distance_in distances f = unwrap_or (slice_get distances f) None

-- the distance of each function that the start reaches
pub record AreDistances (graph : List (List ℕ)) (start : ℕ) (distances : List (Option ℕ)) : Type 0 where
  pub reached : (f n : ℕ) → distance_in distances f ≡ Some n → IsDistance graph n start f
  pub others : (f : ℕ) → distance_in distances f ≡ None → Reaches graph start f → ⊥
