use Rattle.std.proofs.Common.{◌≡◌, ◌<◌, ◌∙◌, length, arith}
use Rattle.std.proofs.lemmas.Grind.{get_or_default_zero}
use Rattle.register_allocation.specs.Homes.{homes_before}
use Rattle.register_allocation.proofs.Tables.{homes-few, home-there}
use Rattle.register_allocation.proofs.table.next_home.Goals as goal

pub overflow_add-place : goal.overflow_add-place
overflow_add-place c =
    let low : c.in-Some.claim.function < length c.args.counts.now.items = omega (arith, c.len.ensures) in
    let count = get_or_default_zero c.args.counts.now.items c.in-Some.claim.function c.index-place.result.now low in
    omega (arith, count, c.index-place.ensures, c.requires.counts c.in-Some.claim.function low, homes-few c.args.objects.now c.in-Some.claim.function c.args.number, c.ranges.number.fits)

pub returns-clause-home : goal.returns-clause-home
returns-clause-home c =
    let low : c.in-Some.claim.function < length c.args.counts.now.items = omega (arith, c.len.ensures) in
    let place : c.index-place.result.now ≡ homes_before c.args.objects.now c.in-Some.claim.function c.args.number =
    c.index-place.ensures ∙ get_or_default_zero c.args.counts.now.items c.in-Some.claim.function c.index-place.result.now low ∙ c.requires.counts c.in-Some.claim.function low in
    c.copied.ensures ∙ c.get.ensures.value
    ∙ home-there c.args.objects.now c.args.lists.now c.args.number c.in-Some.claim c.index-lists-function.result c.index-place.result.now c.in-Some.ensures (omega (arith, c.requires.same)) c.index-lists-function.is place
