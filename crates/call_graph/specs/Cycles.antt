-- The cycle that is told where a function reaches itself.
use Rattle.std.specs.Prelude.{◌≡◌, ℕ, zero, suc, ◌<◌, ◌≤◌, List, [], ◌∷◌, get_or, Option, Some, None, Contains}
use Rattle.call_graph.specs.Walks.{Calls, Reaches, IsDistance}
use Rattle.call_graph.specs.Distances.{distance_in}

-- of the functions that f calls, g is the first at this distance from the start
pub record IsNearer (graph : List (List ℕ)) (start distance f g : ℕ) : Type 0 where
  pub called : Calls graph f g
  pub near : IsDistance graph distance g start
  pub first : (h : ℕ) → h < g → Calls graph f h → IsDistance graph distance h start → ⊥

-- what follows f on its way to the start, at this distance from it: each call comes one nearer
abbrev pub Descends : List (List ℕ) → (start distance f : ℕ) → List ℕ → Type 0
Descends graph start zero f rest = ⊥
Descends graph start (suc zero) f rest = Calls graph f start × (rest ≡ start ∷ [])
Descends graph start (suc (suc distance)) f [] = ⊥
Descends graph start (suc (suc distance)) f (g ∷ rest) =
    IsNearer graph start (suc distance) f g × Descends graph start (suc distance) g rest

-- the cycle from the first function that reaches itself to that function again: of the least length, and by
-- the first functions that it can go by
pub record IsCycle (graph : List (List ℕ)) (start : ℕ) (rest : List ℕ) : Type 0 where
  pub length : ℕ
  pub least : IsDistance graph length start start
  pub first : (f : ℕ) → f < start → Reaches graph f f → ⊥
  pub way : Descends graph start length start rest

-- a cycle as a list, which begins and ends with that function
abbrev pub IsFirstCycle : List (List ℕ) → List ℕ → Type 0
IsFirstCycle graph [] = ⊥
IsFirstCycle graph (start ∷ rest) = IsCycle graph start rest

-- the distances to a function
pub record AreDistancesTo (graph : List (List ℕ)) (start : ℕ) (distances : List (Option ℕ)) : Type 0 where
  pub reached : (f n : ℕ) → distance_in distances f ≡ Some n → IsDistance graph n f start
  pub others : (f : ℕ) → distance_in distances f ≡ None → Reaches graph f start → ⊥

-- of so many functions the first that lies at a distance, if one does
abbrev pub IsNearest : (called : List ℕ) → ℕ → List (Option ℕ) → ℕ → Option ℕ → Type 0
IsNearest called count distances distance None = (k : ℕ) → k < count → distance_in distances (get_or called k 0) ≡ Some distance → ⊥
IsNearest called count distances distance (Some g) =
    Contains called g × (distance_in distances g ≡ Some distance)
    × ((k : ℕ) → k < count → distance_in distances (get_or called k 0) ≡ Some distance → g ≤ get_or called k 0)

abbrev pub IsCycleFrom : List (List ℕ) → (start length : ℕ) → List ℕ → Type 0
IsCycleFrom graph start length [] = ⊥
IsCycleFrom graph start length (f ∷ rest) = (f ≡ start) × Descends graph start length start rest
