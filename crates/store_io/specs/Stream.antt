-- What is read from a reader and written to a writer, where they tell their bytes.
use Rattle.std.specs.Prelude.{◌≡◌, ℕ, ◌+◌, List, ◌++◌, take, Option, Some, None, Result, MatchResult}
use Rattle.std.specs.Io.KnownBytes.{Appends, Consumes, Keeps}

-- the first bytes of those that were left, up to one more than the most, or all where they are fewer
abbrev pub GivesUpTo : Option (List ℕ) → ℕ → List ℕ → Type 0
GivesUpTo None most bytes = Unit {0}
GivesUpTo (Some left) most bytes = bytes ≡ take (most + 1) left

-- the bytes grew by some that the reader gave
abbrev pub GivesMore : Option (List ℕ) → Option (List ℕ) → List ℕ → List ℕ → Type 0
GivesMore left rest before after = (piece : List ℕ) × (after ≡ before ++ piece) × Consumes left rest piece

-- a prefix of the bytes was appended
abbrev pub AppendsPart : Option (List ℕ) → Option (List ℕ) → List ℕ → Type 0
AppendsPart old new bytes = (taken : ℕ) × Appends old new (take taken bytes)

-- that many of the bytes were appended, and none at an error
abbrev pub AppendsCount : {E : Type 0} → Option (List ℕ) → Option (List ℕ) → Result ℕ E → List ℕ → Type 0
AppendsCount old new result bytes = MatchResult result (λ count. Appends old new (take count bytes)) (λ _. Keeps old new)
