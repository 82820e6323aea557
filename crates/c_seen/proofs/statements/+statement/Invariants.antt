use Rattle.std.proofs.Common.{◌≡◌, ◌++◌, drop}
use Rattle.c_seen.specs.Meanings.{names_of}
use Rattle.c_seen.specs.Statements.{seen_in_statements}
use Rattle.c_seen.proofs.statements.+statement.Given as goal

abbrev pub invariant-statements-loop-stmt : goal.invariant-statements-loop-stmt
invariant-statements-loop-stmt l = (l.seen.items ++ seen_in_statements (drop l.stmt-index l.stmts) (names_of l.scope) l.spot ≡ l.fn.seen.items ++ seen_in_statements l.fn.stmts (names_of l.fn.scope) l.spot) × (names_of l.scope ≡ names_of l.fn.scope)
