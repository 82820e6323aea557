-- Why a graph has no order.
use Rattle.std.specs.Prelude.{List, ℕ}
use Rattle.call_graph.specs.declared.refusal.OrderRefusal.{OrderRefusal}
use Rattle.call_graph.specs.declared.refusal.OrderRefusal.TheVariants.{Recursive, Memory}
use Rattle.call_graph.specs.Cycles.{IsFirstCycle}

-- the cycle that is told; of want of memory nothing is said
abbrev pub IsCause : List (List ℕ) → OrderRefusal → Type 0
IsCause graph (Recursive cycle) = IsFirstCycle graph cycle
IsCause graph Memory = Unit {0}
