use Rattle.std.proofs.Common.{◌≡◌, ◌++◌, drop}
use Rattle.c_seen.specs.Meanings.{names_of}
use Rattle.c_seen.specs.Declarations.{numbers}
use Rattle.c_seen.proofs.declarations.values.Given as goal

abbrev pub invariant-loop-value : goal.invariant-loop-value
invariant-loop-value l = l.seen.items ++ numbers (names_of l.scope) (drop l.value-index l.values) ≡ l.fn.seen.items ++ numbers (names_of l.scope) l.fn.values
