-- How a map in memory holds files.
use Rattle.std.specs.Prelude.{ℕ, List, map}
use Rattle.std.specs.FinMap.{from_entries}
use Rattle.std.specs.declared.vec.Vec.{Vec}
use Rattle.store_io.specs.Outside.{Files}

-- the names with their bytes
abbrev pub held_pairs : {A : Type 0} → List (Vec ℕ A × Vec ℕ A) → List (List ℕ × List ℕ)
held_pairs entries = map (λ entry. (entry.0.items, entry.1.items)) entries

-- the files that such entries stand for
abbrev pub held_files : {A : Type 0} → List (Vec ℕ A × Vec ℕ A) → Files
held_files entries = from_entries (held_pairs entries)
