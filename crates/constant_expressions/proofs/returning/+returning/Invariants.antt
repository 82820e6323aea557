use Rattle.std.proofs.Common.{◌≡◌, false, take}
use Rattle.std.specs.List.{list_any}
use Rattle.constant_expressions.specs.Returning.{statement_returns}
use Rattle.constant_expressions.proofs.returning.+returning.Given as goal

abbrev pub invariant-some_returns-loop-stmt : goal.invariant-some_returns-loop-stmt
invariant-some_returns-loop-stmt l = list_any statement_returns (take l.stmt-index l.stmts) ≡ false
