use Rattle.std.proofs.Common.{refl}
use Rattle.called_functions.specs.Called.{called_in_statement}
use Rattle.called_functions.proofs.Appends.{adds-none, adds-two, on-two, on-three, on-four, adds-all}
use Rattle.called_functions.proofs.Equations.{statement-Empty, statement-If, statement-Else, statement-While, statement-Do, statement-For, statement-Break, statement-Continue, block-is}
use Rattle.called_functions.proofs.statement.+statement.Goals as goal

pub add_block-returns : goal.add_block-returns
add_block-returns t c =
    let all = adds-all called_in_statement _ _ _ _ c.loop-stmt-test.false c.loop-stmt.invariant in
    rw block-is (adds-two _ _ _ _ _ (rw c.as_slice.ensures at c.in_ok-add_starts.ensures) (rw c.as_slice-stmt-items.ensures at all))

pub add_statement-returns-in-Empty : goal.add_statement-returns-in-Empty
add_statement-returns-in-Empty t c = rw (c.in-Empty.is, statement-Empty) (adds-none _ _ refl)

pub add_statement-returns-in-Some : goal.add_statement-returns-in-Some
add_statement-returns-in-Some t c =
    rw (c.in-If.is, c.in-Some.is, statement-Else, ← c.get.ensures, ← c.get-in-If.ensures, ← c.get-in-Some.ensures)
    (on-three _ _ _ _ _ _ _ _ c.in_ok-add_expression-in-If.ensures c.in_ok-add_statement-in-If.ensures c.add_statement-in-Some.ensures)

pub add_statement-returns-in-None : goal.add_statement-returns-in-None
add_statement-returns-in-None t c =
    rw (c.in-If.is, c.in-None.is, statement-If, ← c.get.ensures, ← c.get-in-If.ensures) (adds-two _ _ _ _ _ c.in_ok-add_expression-in-If.ensures c.in_ok-add_statement-in-If.ensures)

pub add_statement-returns-in_ok-add_expression-in-While : goal.add_statement-returns-in_ok-add_expression-in-While
add_statement-returns-in_ok-add_expression-in-While t c =
    rw (c.in-While.is, statement-While, ← c.get-in-While.ensures, ← c.get-in-While-2.ensures) (on-two _ _ _ _ _ _ c.in_ok-add_expression-in-While.ensures c.add_statement-in-While.ensures)

pub add_statement-returns-in_ok-add_statement-in-Do : goal.add_statement-returns-in_ok-add_statement-in-Do
add_statement-returns-in_ok-add_statement-in-Do t c =
    rw (c.in-Do.is, statement-Do, ← c.get-in-Do.ensures, ← c.get-in-Do-2.ensures) (on-two _ _ _ _ _ _ c.in_ok-add_statement-in-Do.ensures c.add_expression-in-Do.ensures)

pub add_statement-returns-in_ok-add_simples-in-For-2 : goal.add_statement-returns-in_ok-add_simples-in-For-2
add_statement-returns-in_ok-add_simples-in-For-2 t c =
    rw (c.in-For.is, statement-For, ← c.get-in-For.ensures)
    (on-four _ _ _ _ _ _ _ _ _ _ (rw c.as_slice.ensures at c.in_ok-add_simples-in-For.ensures) c.in_ok-add_value-in-For.ensures (rw c.as_slice-in-For.ensures at c.in_ok-add_simples-in-For-2.ensures) c.add_statement-in-For.ensures)

pub add_statement-returns-in-Break : goal.add_statement-returns-in-Break
add_statement-returns-in-Break t c = rw (c.in-Break.is, statement-Break) (adds-none _ _ refl)

pub add_statement-returns-in-Continue : goal.add_statement-returns-in-Continue
add_statement-returns-in-Continue t c = rw (c.in-Continue.is, statement-Continue) (adds-none _ _ refl)
