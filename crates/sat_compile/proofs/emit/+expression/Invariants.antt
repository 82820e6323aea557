use Rattle.std.proofs.Common.{◌+◌, ◌*◌, max}
use Rattle.first_form.specs.Form.{nesting_of}
use Rattle.sat_compile.proofs.emit.+expression.Given as goal

abbrev pub decreases-push_expression : goal.decreases-push_expression
decreases-push_expression l = 3 * nesting_of l.expr.now

abbrev pub decreases-push_operand : goal.decreases-push_operand
decreases-push_operand l = 3 * nesting_of l.expr.now + 1

abbrev pub decreases-push_call : goal.decreases-push_call
decreases-push_call l = 3 * max (nesting_of l.left.now) (nesting_of l.right.now) + 2
