-- What holds of orders.
use Rattle.std.specs.Prelude.{List, ℕ}
use Rattle.call_graph.specs.Walks.{Reaches}
use Rattle.call_graph.specs.Orders.{IsOrder}

-- where there is an order, no function reaches itself
abbrev pub OrdersHaveNoCycles : Type 0
OrdersHaveNoCycles = (graph : List (List ℕ)) (order : List ℕ) → IsOrder graph order → (f : ℕ) → Reaches graph f f → ⊥
