use Rattle.std.proofs.Common.{take, arith, ap}
use Rattle.first_form.specs.Form.{nesting_of}
use Rattle.sat_compile.specs.Emission.{deepest_of}
use Rattle.sat_compile.proofs.Expressions.{taken_more}
use Rattle.sat_compile.proofs.Nesting.{deepest_more}
use Rattle.sat_compile.proofs.memory.deepest.Goals as goal

pub loop-expr-preserved : goal.loop-expr-preserved
loop-expr-preserved c =
    let outs = c.args.outs.now in
    let i = c.loop-expr.expr-index in
    let e = c.expr-item.result in
    let whole = ap deepest_of (taken_more outs i e c.loop-expr-test.true c.expr-item.is) in
    let more = deepest_more (take i outs) e in
    let here = ap nesting_of c.expr-item.is in
    let low = c.requires i e c.loop-expr-test.true in
    record { value = omega (arith, whole, more); within = omega (arith, here, low) }
