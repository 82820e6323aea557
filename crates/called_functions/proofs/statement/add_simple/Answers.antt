use Rattle.called_functions.specs.Called.{called_in_simple}
use Rattle.called_functions.proofs.Appends.{on-two}
use Rattle.called_functions.proofs.statement.add_simple.Goals as goal

pub returns-in_ok-add_place-in-Assign : goal.returns-in_ok-add_place-in-Assign
unfolding called_in_simple
returns-in_ok-add_place-in-Assign c = rw (c.in-Assign.is, ← c.get.ensures, ← c.get-in-Assign.ensures) (on-two _ _ _ _ _ _ c.in_ok-add_place-in-Assign.ensures c.add_expression.ensures)

pub returns-in-Step : goal.returns-in-Step
unfolding called_in_simple
returns-in-Step c = rw (c.in-Step.is, ← c.get-in-Step.ensures) c.add_place-in-Step.ensures

pub returns-in-SetOverflow : goal.returns-in-SetOverflow
unfolding called_in_simple
returns-in-SetOverflow c = rw (c.in-SetOverflow.is, ← c.get-in-SetOverflow.ensures) c.add_expression-in-SetOverflow.ensures

pub returns-in-Call : goal.returns-in-Call
unfolding called_in_simple
returns-in-Call c = rw c.in-Call.is c.add_call.ensures
