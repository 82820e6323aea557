use Rattle.std.proofs.Common.{◌≡◌, ◌++◌, drop}
use Rattle.std.specs.List.{filter_map}
use Rattle.call_structure.specs.Calls.{place_of, places_of}
use Rattle.call_structure.proofs.graph.places_of.Given as goal

abbrev pub invariant-loop-number : goal.invariant-loop-number
invariant-loop-number l =
    l.places ++ filter_map (place_of l.definitions.entries) (drop l.number-index l.called) ≡ places_of l.definitions.entries l.called
