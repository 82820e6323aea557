use Rattle.std.proofs.Common.{arith, ◌≡◌, ◌≢◌}
use Rattle.std.proofs.lemmas.Int.{ints}
use Rattle.range_transfer.proofs.Least.{without_low, without_high, without_inner}
use Rattle.range_transfer.proofs.relation.without.Goals as goal

pub returns-then-lo-one-clause-least : goal.returns-then-lo-one-clause-least
returns-then-lo-one-clause-least c =
    let range = rw c.in-Span.is at c.requires in
    let low : c.in-Span.lo ≡ c.args.one = omega (arith, ints, range.1, c.if-lo-one.true) in
    rw c.in-Span.is (without_low c.in-Span.lo c.in-Span.hi _ c.args.one c.from.result c.from.ensures.values (omega (arith, ints, range.1, low)) low)

pub returns-then-hi-one-clause-least : goal.returns-then-hi-one-clause-least
returns-then-hi-one-clause-least c =
    let range = rw c.in-Span.is at c.requires in
    let high : c.in-Span.hi ≡ c.args.one = omega (arith, ints, range.2, c.if-hi-one.true) in
    rw c.in-Span.is (without_high c.in-Span.lo c.in-Span.hi _ c.args.one c.up_to.result c.up_to.ensures.values (omega (arith, ints, range.2, high)) high)

pub returns-else-hi-one-clause-least : goal.returns-else-hi-one-clause-least
returns-else-hi-one-clause-least c =
    let range = rw c.in-Span.is at c.requires in
    let low : c.in-Span.lo ≢ c.args.one = omega (arith, ints, range.1, c.if-lo-one.false) in
    let high : c.in-Span.hi ≢ c.args.one = omega (arith, ints, range.2, c.if-hi-one.false) in
    rw c.in-Span.is (without_inner c.in-Span.lo c.in-Span.hi c.args.one range.0 low high)
