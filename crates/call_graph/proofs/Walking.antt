-- Walks, one call longer at their ends.
use Rattle.std.proofs.Common.{◌≡◌, ℕ, ◌<◌, zero, suc, List, length, get_or, refl, sym, subst}
use Rattle.std.specs.Prelude.{Contains}
use Rattle.std.proofs.lemmas.List.{get_or_default}
use Rattle.call_graph.specs.Walks.{callees, Calls, Walk, Reaches}

pub called-at : (graph : List (List ℕ)) (f : ℕ) (called : List ℕ) (k : ℕ) → called ≡ callees graph f → k < length called → get_or called k 0 < length graph → Calls graph f (get_or called k 0)
called-at graph f called k is within own =
    let there : Contains called (get_or called k 0) = (k, within, get_or_default called k (get_or called k 0) 0 within) in
    (subst (λ xs. Contains xs (get_or called k 0)) is there, own)

pub walk-then : (graph : List (List ℕ)) (n f g h : ℕ) → Walk graph n f g → Calls graph g h → Walk graph (suc n) f h
walk-then graph zero f g h is calls = (h, subst (λ x. Calls graph x h) (sym is) calls, refl)
walk-then graph (suc n) f g h walk calls = (walk.0, walk.1, walk-then graph n walk.0 g h walk.2 calls)

pub reaches-then : (graph : List (List ℕ)) (f g h : ℕ) → Reaches graph f g → Calls graph g h → Reaches graph f h
reaches-then graph f g h reaches calls = (suc reaches.0, walk-then graph (suc reaches.0) f g h reaches.1 calls)
