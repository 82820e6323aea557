use Rattle.std.proofs.Common.{◌≡◌, ◌++◌, drop}
use Rattle.c_seen.specs.Meanings.{names_of}
use Rattle.c_seen.specs.Statements.{simples}
use Rattle.c_seen.proofs.statements.simples.Given as goal

abbrev pub invariant-loop-one : goal.invariant-loop-one
invariant-loop-one l = l.seen.items ++ simples (names_of l.scope) (drop l.one-index l.list) ≡ l.fn.seen.items ++ simples (names_of l.scope) l.fn.list
