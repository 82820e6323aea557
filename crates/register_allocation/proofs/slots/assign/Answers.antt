use Rattle.std.proofs.Common.{◌≡◌, ◌∙◌, length, arith, ap, sym}
use Rattle.std.proofs.lemmas.List.{length-map}
use Rattle.ir_arena.specs.Placed.{function_of, whole_of}
use Rattle.register_allocation.proofs.Laying.{laid-good, laid-slots, laid-end, few-end}
use Rattle.register_allocation.proofs.slots.assign.Goals as goal

pub returns-clause-good : goal.returns-clause-good
returns-clause-good c =
    let at = c.loop-number.invariant in
    let all : c.loop-number.number ≡ length c.as_slice-objects.result.now = omega (arith, c.in_ok-number-end.ensures) in
    let laid = laid-end c.args.ir.now.objects c.as_slice-objects.result.now c.loop-number.lists.items c.from_vec.result c.loop-number.number c.as_slice-objects.ensures c.from_vec.ensures all at.filled in
    let few = few-end c.args.ir.now.objects c.as_slice-objects.result.now c.loop-number.number c.loop-number.end c.as_slice-objects.ensures all at.placed at.within in
    laid-good (whole_of c.args.ir.now) c.from_vec.result (ap length c.from_vec.ensures ∙ at.count ∙ sym (length-map c.args.ir.now.functions function_of)) laid few

pub returns-clause-slots : goal.returns-clause-slots
returns-clause-slots c =
    let all : c.loop-number.number ≡ length c.as_slice-objects.result.now = omega (arith, c.in_ok-number-end.ensures) in
    laid-slots c.args.ir.now.objects c.from_vec.result
    (laid-end c.args.ir.now.objects c.as_slice-objects.result.now c.loop-number.lists.items c.from_vec.result c.loop-number.number c.as_slice-objects.ensures c.from_vec.ensures all c.loop-number.invariant.filled)
