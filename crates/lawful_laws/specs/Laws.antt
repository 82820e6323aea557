-- Which lines of what is lawful hold of every source whose names are tied. Those about places and calls, about most
-- fields of objects, about limits, and about what stands at the tokens of sites are not among them.
use Rattle.std.specs.Prelude.{◌≡◌, ℕ, ◌<◌, true, length, map, slice_index_or}
use Rattle.std.specs.List.{list_all}
use Rattle.std.specs.List.Sorted.{IsStrictlyIncreasing}
use Rattle.operator_meaning.specs.declared.object.Site.{Site}
use Rattle.c_tree.specs.declared.program.Program.{Program}
use Rattle.c_typed.specs.declared.typed.Typed.{Typed}
use Rattle.c_types.specs.Tied.{IsTied, IsTyped}
use Rattle.lawful_sources.specs.Lawful.{token_of, is_whole, returns_surely, Everywhere}
use Rattle.lawful_sources.specs.Objects.{is_no_static_view}
use Rattle.lawful_sources.specs.Rows.{is_in_loop, return_fits}

abbrev pub FunctionsAreWhole : Type 0
FunctionsAreWhole = (program : Program) (typed : Typed) → IsTied program typed → list_all is_whole typed.functions ≡ true

abbrev pub FunctionsReturn : Type 0
FunctionsReturn = (program : Program) (typed : Typed) → IsTyped program typed → list_all returns_surely typed.functions ≡ true

abbrev pub LeavesStandInLoops : Type 0
LeavesStandInLoops = (program : Program) (typed : Typed) → IsTyped program typed → Everywhere typed is_in_loop

abbrev pub ReturnsFit : Type 0
ReturnsFit = (program : Program) (typed : Typed) → IsTyped program typed → Everywhere typed return_fits

-- no two sites have one token
abbrev pub HasOwnTokens : Typed → Type 0
HasOwnTokens typed =
    (i j : ℕ) (d : Site) → i < j → j < length typed.sites → (slice_index_or typed.sites i d).tok ≡ (slice_index_or typed.sites j d).tok → ⊥

abbrev pub SitesAreInOrder : Type 0
SitesAreInOrder = (program : Program) (typed : Typed) → IsTied program typed → HasOwnTokens typed → IsStrictlyIncreasing (map token_of typed.sites)

abbrev pub WeightsAreKnown : Type 0
WeightsAreKnown = (program : Program) (typed : Typed) → IsTied program typed → typed.weights ≡ 1

abbrev pub ViewsAreNotStatic : Type 0
ViewsAreNotStatic = (program : Program) (typed : Typed) → IsTyped program typed → list_all is_no_static_view typed.objects ≡ true
