-- Which lines of what a lawful tree is say how its functions end, and what they call.
use Rattle.std.specs.Prelude.{◌≡◌, ℕ, true, List}
use Rattle.std.specs.List.{list_all}
use Rattle.c_typed.specs.declared.typed.Typed.{Typed}
use Rattle.call_graph.specs.Walks.{Reaches}
use Rattle.call_structure.specs.Orders.{IsCallersFirst}
use Rattle.ir_arena.specs.declared.ir.Ir.{Ir}
use Rattle.ir_arena.specs.Placed.{whole_of}
use Rattle.lawful_ir.specs.Built.{IsTreeOf}
use Rattle.lawful_sources.specs.Lawful.{IsLawful}
use Rattle.lawful_ir.specs.Lawful.{returns_in, calls_in, loops_follow}
use Rattle.lawful_ir.specs.Laws.{HoldsOfTrees}

abbrev pub FunctionsReturn : Type 0
FunctionsReturn = HoldsOfTrees (λ ir. list_all returns_in ir.functions ≡ true)

abbrev pub LoopsAreNumbered : Type 0
LoopsAreNumbered = HoldsOfTrees (λ ir. loops_follow 0 (whole_of ir).functions ≡ true)

-- what holds of the tree of each lawful source whose functions have an order, callers first
abbrev pub HoldsOfOrderedTrees : (Ir → Type 0) → Type 0
HoldsOfOrderedTrees Holds =
    (typed : Typed) (ir : Ir) → IsLawful typed → IsTreeOf typed ir → (order : List ℕ) → IsCallersFirst typed order → Holds ir

abbrev pub CallsEnd : Type 0
CallsEnd = HoldsOfOrderedTrees (λ ir. (function : ℕ) → Reaches (calls_in ir) function function → ⊥)
