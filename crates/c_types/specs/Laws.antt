-- What holds of sources whose names are tied.
use Rattle.std.specs.Prelude.{◌≡◌, ℕ, ◌<◌, length, map, slice_index_or}
use Rattle.std.specs.List.Sorted.{IsStrictlyIncreasing}
use Rattle.c_tree.specs.declared.program.Program.{Program}
use Rattle.c_typed.specs.declared.typed.Typed.{Typed}
use Rattle.tied_names.specs.Numbers.{token_of, number_in}
use Rattle.c_types.specs.Tied.{IsTied}

-- a source is tied in at most one way
abbrev pub AreTiedOnce : Type 0
AreTiedOnce = (program : Program) (one other : Typed) → IsTied program one → IsTied program other → one ≡ other

-- where no two sites have one token, the number of each is its place among all
abbrev pub AreNumberedByPlaces : Type 0
AreNumberedByPlaces =
    (program : Program) (typed : Typed) → IsTied program typed → IsStrictlyIncreasing (map token_of typed.sites) → (place : ℕ) → place < length typed.sites
    → number_in (map token_of typed.sites) (slice_index_or (map token_of typed.sites) place 0) ≡ place
