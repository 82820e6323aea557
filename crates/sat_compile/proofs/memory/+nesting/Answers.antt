use Rattle.std.proofs.Common.{arith, ap}
use Rattle.first_form.specs.Form.{nesting_of}
use Rattle.sat_compile.proofs.Nesting.{nested}
use Rattle.sat_compile.proofs.memory.+nesting.Goals as goal

pub nesting-left-requires : goal.nesting-left-requires
nesting-left-requires t c =
    let deep = nested c.args.expr.now c.in-Add.left c.in-Add.right c.in-Add.is in
    let left = ap nesting_of c.get.ensures in
    (omega (arith, deep, left, c.decreases), omega (arith, deep, left, c.requires))

pub nesting-right-requires : goal.nesting-right-requires
nesting-right-requires t c =
    let deep = nested c.args.expr.now c.in-Add.left c.in-Add.right c.in-Add.is in
    let right = ap nesting_of c.get-in-Add.ensures in
    (omega (arith, deep, right, c.decreases), omega (arith, deep, right, c.requires))

pub overflow_add-result : goal.overflow_add-result
overflow_add-result t c =
    let deep = nested c.args.expr.now c.in-Add.left c.in-Add.right c.in-Add.is in
    let left = ap nesting_of c.get.ensures in
    let right = ap nesting_of c.get-in-Add.ensures in
    omega (arith, deep, left, right, c.requires)

pub returns-in-Add : goal.returns-in-Add
returns-in-Add t c =
    let deep = nested c.args.expr.now c.in-Add.left c.in-Add.right c.in-Add.is in
    let left = ap nesting_of c.get.ensures in
    let right = ap nesting_of c.get-in-Add.ensures in
    omega (arith, deep, left, right)
