-- What is seen of the map that keeps the places of the newest declarations.
use Rattle.std.specs.Prelude.{ℕ, List, Option, Some, None}
use Rattle.std.specs.Str.{bytes_eq}
use Rattle.std.specs.Borrow.{Bor}
use Rattle.indexmap.specs.IndexMap.{IndexMap, get_by}

-- the value that is there, and none where none is
abbrev pub flat : {A : Type 0} → Option (Option A) → Option A
flat None = None
flat (Some found) = found

-- the place that the map keeps for a name
abbrev pub place_in : {S : Type 0} → IndexMap (Bor (List ℕ)) (Option ℕ) S → List ℕ → Option ℕ
place_in newest name = flat (get_by (λ k. bytes_eq name k.now) newest)
