-- Which sites stand in the bodies of a lawful tree.
use Rattle.std.specs.Prelude.{◌≡◌, ℕ, true, slice_get, Some}
use Rattle.std.specs.List.{All}
use Rattle.ir_arena.specs.declared.ir.Ir.{Ir}
use Rattle.ir_arena.specs.Placed.{whole_of}
use Rattle.ir_arena.specs.Tree.{IrTree, TreeFunction}
use Rattle.lawful_ir.specs.Lawful.{IsLawfulTree}
use Rattle.code_entries.specs.Sites.{has_rows, sites_of}
use Rattle.code_sites.specs.Operands.{has_operands}
use Rattle.code_sites.specs.Sites.{AreSites, IsListed, entries_in}

-- this holds of the body of each function of a lawful tree
abbrev HoldsOfBodies : (Ir → IrTree → Type 0) → Type 0
HoldsOfBodies Holds = (ir : Ir) → IsLawfulTree ir → (number : ℕ) (function : TreeFunction) → slice_get (whole_of ir).functions number ≡ Some function → Holds ir function.body

-- what may be missing is there once at most, and what starts is an object of its block
abbrev pub BodiesHaveRows : Type 0
BodiesHaveRows = HoldsOfBodies (λ ir body. has_rows body ≡ true)

-- each site has as many operands as it takes
abbrev pub BodiesHaveOperands : Type 0
BodiesHaveOperands = HoldsOfBodies (λ ir body. has_operands body ≡ true)

-- each site is one of the tree's own, of the same kind
abbrev pub BodiesHaveSites : Type 0
BodiesHaveSites = HoldsOfBodies (λ ir body. All (IsListed ir.sites) (sites_of body))

-- the sites of all bodies are those of the tree, each of them once
abbrev pub SitesAreNumbered : Type 0
SitesAreNumbered = (ir : Ir) → IsLawfulTree ir → AreSites ir.sites (entries_in ir)
