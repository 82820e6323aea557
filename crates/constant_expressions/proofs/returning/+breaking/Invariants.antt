use Rattle.std.proofs.Common.{◌≡◌, false, take}
use Rattle.std.specs.List.{list_any}
use Rattle.constant_expressions.specs.Returning.{has_own_break}
use Rattle.constant_expressions.proofs.returning.+breaking.Given as goal

abbrev pub invariant-any_breaks-loop-stmt : goal.invariant-any_breaks-loop-stmt
invariant-any_breaks-loop-stmt l = list_any has_own_break (take l.stmt-index l.stmts) ≡ false
