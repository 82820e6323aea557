-- A search by waves: from a start to what it calls, to what these call, and so on.
use Rattle.std.specs.Prelude.{◌≡◌, ◌≢◌, ℕ, ◌+◌, ◌<◌, List, length, get_or, Option, Some, None, Contains, ◌⊎◌, sum_by}
use Rattle.call_graph.specs.Walks.{Calls}
use Rattle.call_graph.specs.Distances.{distance_in}
use Rattle.call_graph.specs.declared.distance.Wave.{Wave}

abbrev pub open_count : Option ℕ → ℕ
open_count None = 1
open_count (Some n) = 0

-- the number of functions without a distance so far
abbrev pub open_functions : Wave → ℕ
open_functions wave = sum_by open_count wave.distances

abbrev pub distance_at : Wave → ℕ → Option ℕ
distance_at wave f = distance_in wave.distances f

-- the functions of a wave are those at its distance
pub record IsWave (distance : ℕ) (wave : Wave) : Type 0 where
  pub each : (f : ℕ) → distance_at wave f ≡ Some distance → Contains wave.functions f
  pub only : (f : ℕ) → Contains wave.functions f → distance_at wave f ≡ Some distance

-- no function is at this distance
abbrev pub NoneAt : ℕ → Wave → Type 0
NoneAt distance wave = (f : ℕ) → distance_at wave f ≢ Some distance

-- the wave came to so many of these functions: those that had no distance have the wave's
pub record Widens (called : List ℕ) (count distance : ℕ) (before after : Wave) : Type 0 where
  pub sized : length after.distances ≡ length before.distances
  pub wave : IsWave distance after
  pub kept : (f n : ℕ) → distance_at before f ≡ Some n → distance_at after f ≡ Some n
  pub only : (f n : ℕ) → distance_at after f ≡ Some n → (distance_at before f ≡ Some n) ⊎ (n ≡ distance) × Contains called f
  pub reached : (k : ℕ) → k < count → get_or called k 0 < length before.distances → (n : ℕ) × (distance_at after (get_or called k 0) ≡ Some n)
  pub fewer : open_functions after + length after.functions ≡ open_functions before + length before.functions

-- the next wave came to all that so many functions of the last one call
pub record Spreads (graph : List (List ℕ)) (count distance : ℕ) (before after : Wave) : Type 0 where
  pub sized : length after.distances ≡ length before.distances
  pub wave : IsWave distance after
  pub kept : (f n : ℕ) → distance_at before f ≡ Some n → distance_at after f ≡ Some n
  pub only : (f n : ℕ) → distance_at after f ≡ Some n → (distance_at before f ≡ Some n) ⊎ (n ≡ distance) × ((h : ℕ) × Contains before.functions h × Calls graph h f)
  pub reached : (k : ℕ) → k < count → (f : ℕ) → Calls graph (get_or before.functions k 0) f → (n : ℕ) × (distance_at after f ≡ Some n)
  pub fewer : open_functions after + length after.functions ≡ open_functions before
