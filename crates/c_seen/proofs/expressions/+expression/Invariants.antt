use Rattle.std.proofs.Common.{◌≡◌, ◌++◌, drop}
use Rattle.c_seen.specs.Meanings.{names_of}
use Rattle.c_seen.specs.Expressions.{arguments_from}
use Rattle.c_seen.proofs.expressions.+expression.Given as goal

abbrev pub invariant-arguments-loop-place : goal.invariant-arguments-loop-place
invariant-arguments-loop-place l = l.seen.items ++ arguments_from (drop l.place l.args) (names_of l.scope) l.callee l.place ≡ l.fn.seen.items ++ arguments_from l.fn.args (names_of l.scope) l.callee 0
