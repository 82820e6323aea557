-- Which lines of what a lawful tree is hold of the tree of every lawful source.
use Rattle.std.specs.Prelude.{◌≡◌, ◌≤◌, true, length, map}
use Rattle.std.specs.List.{list_all}
use Rattle.std.specs.List.Sorted.{IsStrictlyIncreasing}
use Rattle.sat_base.specs.declared.limits.TheConstants.{TOKENS, CONSTANTS}
use Rattle.c_typed.specs.declared.typed.Typed.{Typed}
use Rattle.ir_arena.specs.declared.ir.Ir.{Ir}
use Rattle.ir_arena.specs.Placed.{whole_of}
use Rattle.lawful_ir.specs.Built.{IsTreeOf}
use Rattle.ir_cuts.specs.Cuts.{cuts_of}
use Rattle.lawful_sources.specs.Lawful.{IsLawful, token_of}
use Rattle.lawful_sources.specs.Rows.{argument_fits, conversion_stands, is_in_loop, return_fits}
use Rattle.lawful_ir.specs.Lawful.{stands_in, EverywhereIn}
use Rattle.lawful_ir.specs.Positions.{is_placed}

-- what holds of the tree of each lawful source
abbrev pub HoldsOfTrees : (Ir → Type 0) → Type 0
HoldsOfTrees Holds = (typed : Typed) (ir : Ir) → IsLawful typed → IsTreeOf typed ir → Holds ir

abbrev pub NodesArePlaced : Type 0
NodesArePlaced = HoldsOfTrees (λ ir. list_all is_placed (stands_in ir) ≡ true)

abbrev pub ArgumentsFit : Type 0
ArgumentsFit = HoldsOfTrees (λ ir. EverywhereIn ir argument_fits)

abbrev pub ReturnsFit : Type 0
ReturnsFit = HoldsOfTrees (λ ir. EverywhereIn ir return_fits)

abbrev pub LeavesStandInLoops : Type 0
LeavesStandInLoops = HoldsOfTrees (λ ir. EverywhereIn ir is_in_loop)

abbrev pub ConversionsStand : Type 0
ConversionsStand = HoldsOfTrees (λ ir. EverywhereIn ir conversion_stands)

abbrev pub ConstantsAreFew : Type 0
ConstantsAreFew = HoldsOfTrees (λ ir. length ir.constants ≤ CONSTANTS)

abbrev pub SitesAreFew : Type 0
SitesAreFew = HoldsOfTrees (λ ir. length ir.sites ≤ TOKENS)

abbrev pub SitesAreInOrder : Type 0
SitesAreInOrder = HoldsOfTrees (λ ir. IsStrictlyIncreasing (map token_of ir.sites))

abbrev pub WeightsAreKnown : Type 0
WeightsAreKnown = HoldsOfTrees (λ ir. ir.weights ≡ 1)

abbrev pub CutsStand : Type 0
CutsStand = HoldsOfTrees (λ ir. ir.cuts ≡ cuts_of (whole_of ir))
