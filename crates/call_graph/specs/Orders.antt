-- Orders in which each function stands before those that it calls.
use Rattle.std.specs.Prelude.{◌≡◌, ℕ, ◌+◌, ◌<◌, ◌==◌, if◌then◌else◌, List, [], ◌∷◌, length, Contains, All}
use Rattle.call_graph.specs.Walks.{Calls}

-- how often a function stands in a list
abbrev pub count_of : ℕ → List ℕ → ℕ
count_of f [] = 0
count_of f (g ∷ rest) = (if g == f then 1 else 0) + count_of f rest

abbrev pub AreCallersFirst : List (List ℕ) → List ℕ → Type 0
AreCallersFirst graph [] = Unit {0}
AreCallersFirst graph (f ∷ later) = ((g : ℕ) → Calls graph f g → Contains later g) × AreCallersFirst graph later

-- an order of the functions: each stands in it once, and before those that it calls
pub record IsOrder (graph : List (List ℕ)) (order : List ℕ) : Type 0 where
  pub own : All (λ f. f < length graph) order
  pub once : (f : ℕ) → f < length graph → count_of f order ≡ 1
  pub callers_first : AreCallersFirst graph order
