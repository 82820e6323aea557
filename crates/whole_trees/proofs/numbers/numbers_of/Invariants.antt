use Rattle.std.proofs.Common.{◌≡◌, ◌++◌, drop}
use Rattle.whole_trees.specs.Sources.{numbers_from}
use Rattle.whole_trees.proofs.numbers.numbers_of.Given as goal

abbrev pub invariant-loop : goal.invariant-loop
invariant-loop l =
    l.numbers ++ numbers_from l.definitions.entries l.number (drop l.index l.typed.functions) ≡ numbers_from l.definitions.entries 0 l.typed.functions
