use Rattle.std.proofs.Common.{◌≡◌, take, map, ℕ}
use Rattle.sat_base.specs.declared.name.At.{At}
use Rattle.call_structure.specs.Calls.{places_of, called_by}
use Rattle.call_structure.proofs.graph.calls_among.Given as goal

abbrev pub invariant-loop-place : goal.invariant-loop-place
invariant-loop-place l =
    l.graph ≡ map (λ (definition : ℕ × At). places_of l.definitions.entries (called_by l.typed definition.0)) (take l.place l.definitions.entries)
