use Rattle.std.proofs.Common.{◌≡◌, ◌++◌, drop}
use Rattle.std.specs.Prelude.{flat_map}
use Rattle.called_functions.specs.Called.{called_in_argument}
use Rattle.called_functions.proofs.called.+expression.Given as goal

abbrev pub decreases-add_argument : goal.decreases-add_argument
decreases-add_argument l = goal.size-add_argument l

abbrev pub decreases-add_call : goal.decreases-add_call
decreases-add_call l = goal.size-add_call l

abbrev pub decreases-add_expression : goal.decreases-add_expression
decreases-add_expression l = goal.size-add_expression l

abbrev pub decreases-add_place : goal.decreases-add_place
decreases-add_place l = goal.size-add_place l

abbrev pub invariant-add_call-loop-arg : goal.invariant-add_call-loop-arg
invariant-add_call-loop-arg l = l.called ++ flat_map called_in_argument (drop l.arg-index l.arg-items) ≡ l.initial.called ++ flat_map called_in_argument l.arg-items
