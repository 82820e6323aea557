-- Which lines of what is lawful hold of the sites of every source without a fault.
use Rattle.std.specs.Prelude.{map}
use Rattle.std.specs.List.{All}
use Rattle.std.specs.List.Sorted.{IsPermutation}
use Rattle.c_tree.specs.declared.program.Program.{Program}
use Rattle.c_typed.specs.declared.typed.Typed.{Typed}
use Rattle.c_types.specs.Tied.{IsTyped}
use Rattle.lawful_laws.specs.Laws.{HasOwnTokens}
use Rattle.lawful_sources.specs.Lawful.{at_of, Everywhere}
use Rattle.lawful_sources.specs.Rows.{mark_is_numbered, IsOfKind, sites_standing}
use Rattle.lawful_sources.specs.Statements.{in_source}
use Rattle.lawful_names.specs.Spelled.{AllSpelled}

-- where no two sites have one token
abbrev pub MarksAreNumbered : Type 0
MarksAreNumbered = (program : Program) (typed : Typed) → IsTyped program typed → HasOwnTokens typed → Everywhere typed (mark_is_numbered typed)

abbrev pub SitesStandOnce : Type 0
SitesStandOnce = (program : Program) (typed : Typed) → IsTyped program typed → IsPermutation (sites_standing (in_source typed)) (map at_of typed.sites)

-- where an array has an element beside; else a table without columns shows as an array of one dimension, so that its row,
-- given as a view, would stand as an element after `&`
abbrev pub KindsAgree : Type 0
KindsAgree = (program : Program) (typed : Typed) → AllSpelled program → IsTyped program typed → HasOwnTokens typed → All (IsOfKind typed) (in_source typed)
