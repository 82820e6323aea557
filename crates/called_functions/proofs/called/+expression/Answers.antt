use Rattle.std.proofs.Common.{refl}
use Rattle.called_functions.specs.Called.{called_in_argument}
use Rattle.called_functions.proofs.Appends.{adds-none, adds-two, on-two, on-three, adds-all}
use Rattle.called_functions.proofs.Equations.{kind-Int, kind-ReadOverflow, kind-Binary, kind-Choose, place-Plain, place-Index2, place-Deref, call-is, expression-is}
use Rattle.called_functions.proofs.called.+expression.Goals as goal

pub add_call-returns : goal.add_call-returns
add_call-returns t c =
    let all = adds-all called_in_argument _ _ _ _ c.loop-arg-test.false c.loop-arg.invariant in
    rw call-is (adds-two _ _ _ _ _ c.in_ok-add_callee.ensures (rw c.as_slice-arg-items.ensures at all))

pub add_expression-returns-in-Int : goal.add_expression-returns-in-Int
add_expression-returns-in-Int t c = rw (expression-is, c.in-Int.is, kind-Int) (adds-none _ _ refl)

pub add_expression-returns-in-ReadOverflow : goal.add_expression-returns-in-ReadOverflow
add_expression-returns-in-ReadOverflow t c = rw (expression-is, c.in-ReadOverflow.is, kind-ReadOverflow) (adds-none _ _ refl)

pub add_expression-returns-in_ok-add_expression-in-Binary : goal.add_expression-returns-in_ok-add_expression-in-Binary
add_expression-returns-in_ok-add_expression-in-Binary t c =
    rw (expression-is, c.in-Binary.is, kind-Binary, ← c.get-in-Binary.ensures, ← c.get-in-Binary-2.ensures) (on-two _ _ _ _ _ _ c.in_ok-add_expression-in-Binary.ensures c.add_expression-in-Binary-2.ensures)

pub add_expression-returns-in_ok-add_expression-in-Choose-2 : goal.add_expression-returns-in_ok-add_expression-in-Choose-2
add_expression-returns-in_ok-add_expression-in-Choose-2 t c =
    rw (expression-is, c.in-Choose.is, kind-Choose, ← c.get-in-Choose.ensures, ← c.get-in-Choose-2.ensures, ← c.get-in-Choose-3.ensures)
    (on-three _ _ _ _ _ _ _ _ c.in_ok-add_expression-in-Choose.ensures c.in_ok-add_expression-in-Choose-2.ensures c.add_expression-in-Choose-3.ensures)

pub add_place-returns-in-Plain : goal.add_place-returns-in-Plain
add_place-returns-in-Plain t c = rw (c.in-Plain.is, place-Plain) (adds-none _ _ refl)

pub add_place-returns-in_ok-add_expression-in-Index2 : goal.add_place-returns-in_ok-add_expression-in-Index2
add_place-returns-in_ok-add_expression-in-Index2 t c =
    rw (c.in-Index2.is, place-Index2, ← c.get-in-Index2.ensures, ← c.get-in-Index2-2.ensures) (on-two _ _ _ _ _ _ c.in_ok-add_expression-in-Index2.ensures c.add_expression-in-Index2-2.ensures)

pub add_place-returns-in-Deref : goal.add_place-returns-in-Deref
add_place-returns-in-Deref t c = rw (c.in-Deref.is, place-Deref) (adds-none _ _ refl)
