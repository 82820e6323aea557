-- What a store of files and a sink of bytes tell, and when their failures have a cause.
use Rattle.std.specs.Prelude.{◌≡◌, ℕ, ◌+◌, ◌-◌, ◌^◌, ◌<◌, ◌≤◌, ◌⊎◌, min, List, ◌++◌, take, Option, Some, None}
use Rattle.std.specs.Option.{option_map}
use Rattle.std.specs.Ordering.{nat_cmp}
use Rattle.std.specs.Cmp.Lexicographic.{slice_cmp}
use Rattle.std.specs.FinMap as map

-- ---- counts of faults

-- The count grew, or it stands at the last value of its u64.
abbrev pub Rose : ℕ → ℕ → Type 0
Rose before now = min (before + 1) (2 ^ 64 - 1) ≤ now

-- No fault was counted: neither is so.
abbrev pub IsCalm : ℕ → ℕ → Type 0
IsCalm before now = now < min (before + 1) (2 ^ 64 - 1)

-- ---- a store

-- files by the bytes of their names
abbrev pub Files : Type 0
Files = map.FinMap (slice_cmp nat_cmp) (List ℕ)

-- the files with these bytes under a name, and every other name as before
abbrev pub files_with : Option Files → List ℕ → List ℕ → Option Files
files_with files name bytes = option_map (λ told. map.insert told name bytes) files

-- The file is there, and these are its first bytes up to one more than the most, or all of it where it is
-- shorter. A store that does not tell its files claims nothing of what it reads.
abbrev pub ReadsFile : Option Files → List ℕ → ℕ → List ℕ → Type 0
ReadsFile None name most bytes = Unit {0}
ReadsFile (Some told) name most bytes = (file : List ℕ) × (map.get told name ≡ Some file) × (bytes ≡ take (most + 1) file)

-- The told files lack the name; of a store that does not tell, a fault was counted.
abbrev pub IsMissing : Option Files → List ℕ → ℕ → ℕ → Type 0
IsMissing None name before now = Rose before now
IsMissing (Some told) name before now = map.get told name ≡ None

-- The files are as before, or this name alone is not, and holds a prefix of the bytes.
abbrev pub WritesPart : Option Files → Option Files → List ℕ → List ℕ → Type 0
WritesPart old new name bytes = (new ≡ old) ⊎ ((taken : ℕ) × (new ≡ files_with old name (take taken bytes)))

-- ---- a sink

-- what was written, and these bytes after it
abbrev pub text_with : Option (List ℕ) → List ℕ → Option (List ℕ)
text_with written bytes = option_map (λ text. text ++ bytes) written

-- what was written, and a prefix of the bytes after it
abbrev pub GrowsByPart : Option (List ℕ) → Option (List ℕ) → List ℕ → Type 0
GrowsByPart old new bytes = (taken : ℕ) × (new ≡ text_with old (take taken bytes))
