-- The files that a store in memory begins with.
use Rattle.std.specs.Prelude.{ℕ, ◌≢◌, List, map}
use Rattle.std.specs.List.{AllPairs}
use Rattle.std.specs.FinMap.{from_entries}
use Rattle.store_io.specs.Outside.{Files}
use Rattle.store_io.specs.declared.entry.Entry.{Entry}

-- no two entries have one name
abbrev pub NamesDiffer : List Entry → Type 0
NamesDiffer files = AllPairs (λ file later. file.name ≢ later.name) files

-- the names with their bytes
abbrev pub named_bytes : List Entry → List (List ℕ × List ℕ)
named_bytes files = map (λ file. (file.name, file.bytes)) files

-- just these files
abbrev pub files_of : List Entry → Files
files_of files = from_entries (named_bytes files)
