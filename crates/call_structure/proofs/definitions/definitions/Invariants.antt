use Rattle.std.proofs.Common.{◌≡◌, ◌++◌, ◌≤◌, ℕ, nat_eq, None, drop}
use Rattle.indexmap.specs.IndexMap.{get}
use Rattle.call_structure.specs.Definitions.{defined_from}
use Rattle.call_structure.proofs.definitions.definitions.Given as goal

abbrev pub invariant-loop-number : goal.invariant-loop-number
invariant-loop-number l = record {
  all : l.definitions.entries ++ defined_from l.number (drop l.number l.function-items) ≡ defined_from 0 l.function-items;
  later : (number : ℕ) → l.number ≤ number → get nat_eq l.definitions number ≡ None;
}
