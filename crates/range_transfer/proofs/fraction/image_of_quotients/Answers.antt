use Rattle.std.proofs.Common.{◌≡◌, ◌≤ℤ◌, Some, arith, to_z, of_z, w64}
use Rattle.std.specs.Int.{int_min}
use Rattle.std.proofs.lemmas.Int.{ints, clamps}
use Rattle.operator_meaning.specs.Value.{quotient}
use Rattle.range_core.specs.declared.range.Range.TheVariants.{Empty, Span}
use Rattle.range_transfer.proofs.Numbers.{read_end}
use Rattle.range_transfer.proofs.Quotients.{ends_valid, no_quotients, first_part, second_part, quotients, quotient_fits, quotients_rise}
use Rattle.range_transfer.proofs.fraction.image_of_quotients.Goals as goal

pub returns-in_default-clause-least : goal.returns-in_default-clause-least
returns-in_default-clause-least c =
    no_quotients c.args.dividend c.args.divisor (λ a b in' in'' valid. first_part c.args.dividend Empty c.requires.dividend c.in_default.ensures.common a b in' valid)

pub returns-in_default-meet-clause-least : goal.returns-in_default-meet-clause-least
returns-in_default-meet-clause-least c =
    no_quotients c.args.dividend c.args.divisor (λ a b in' in'' valid. second_part c.args.divisor Empty c.requires.divisor c.in_default-meet.ensures.common a b in'' valid)

pub returns-then-high-lo-clause-least : goal.returns-then-high-lo-clause-least
returns-then-high-lo-clause-least c =
    let (some, low, high) = c.in-Span.ensures.range in
    let (some', low', high') = c.in-Span-meet.ensures.range in
    no_quotients c.args.dividend c.args.divisor (λ a b in' in'' valid.
    let there = first_part c.args.dividend (Span c.in-Span.lo c.in-Span.hi) c.requires.dividend c.in-Span.ensures.common a b in' valid in
    let there' = second_part c.args.divisor (Span c.in-Span-meet.low c.in-Span-meet.high) c.requires.divisor c.in-Span-meet.ensures.common a b in'' valid in
    omega (arith, ints, there.0, there'.1, valid.1, c.if-high-lo.true, low, high'))

pub fraction-requires-clause-divisor : goal.fraction-requires-clause-divisor
fraction-requires-clause-divisor c =
    let (some, low, high) = c.in-Span.ensures.range in
    let (some', low', high') = c.in-Span-meet.ensures.range in
    let valid = ends_valid c.args.dividend c.args.divisor c.in-Span.lo c.in-Span.hi c.in-Span-meet.low c.in-Span-meet.high some some' c.in-Span.ensures.common c.in-Span-meet.ensures.common in
    omega (arith, ints, valid.1, some', high')

pub fraction-requires-2-clause-dividend : goal.fraction-requires-2-clause-dividend
fraction-requires-2-clause-dividend c =
    let (some, low, high) = c.in-Span.ensures.range in
    let (some', low', high') = c.in-Span-meet.ensures.range in
    let valid = ends_valid c.args.dividend c.args.divisor c.in-Span.lo c.in-Span.hi c.in-Span-meet.low c.in-Span-meet.high some some' c.in-Span.ensures.common c.in-Span-meet.ensures.common in
    omega (arith, ints, clamps, valid.0, valid.1, some, some', high, low', c.min.ensures.value)

pub fraction-requires-2-clause-divisor : goal.fraction-requires-2-clause-divisor
fraction-requires-2-clause-divisor c =
    let (some, low, high) = c.in-Span.ensures.range in
    let (some', low', high') = c.in-Span-meet.ensures.range in
    let valid = ends_valid c.args.dividend c.args.divisor c.in-Span.lo c.in-Span.hi c.in-Span-meet.low c.in-Span-meet.high some some' c.in-Span.ensures.common c.in-Span-meet.ensures.common in
    omega (arith, ints, valid.1, low')

begin : (c : goal.After-fraction-2) → quotient c.in-Span.lo c.in-Span-meet.high ≡ Some c.fraction.result
begin c =
    let (some, low, high) = c.in-Span.ensures.range in
    let (some', low', high') = c.in-Span-meet.ensures.range in
    rw (read_end c.in-Span.lo low, read_end c.in-Span-meet.high high') at c.fraction.ensures

end : (c : goal.After-fraction-2) → quotient (int_min c.in-Span.hi c.in-Span-meet.low) c.in-Span-meet.low ≡ Some c.fraction-2.result
end c =
    let (some, low, high) = c.in-Span.ensures.range in
    let (some', low', high') = c.in-Span-meet.ensures.range in
    let least : to_z w64 (of_z w64 c.min.result) ≡ int_min c.in-Span.hi c.in-Span-meet.low = omega (arith, ints, clamps, high, low', c.min.ensures.value) in
    rw (least, read_end c.in-Span-meet.low low') at c.fraction-2.ensures

pub returns-clause-range : goal.returns-clause-range
returns-clause-range c =
    let (some, low, high) = c.in-Span.ensures.range in
    let (some', low', high') = c.in-Span-meet.ensures.range in
    let valid = ends_valid c.args.dividend c.args.divisor c.in-Span.lo c.in-Span.hi c.in-Span-meet.low c.in-Span-meet.high some some' c.in-Span.ensures.common c.in-Span-meet.ensures.common in
    let meets : c.in-Span.lo ≤ℤ c.in-Span-meet.high = omega (arith, ints, c.if-high-lo.false, low, high') in
    let first = quotient_fits c.in-Span.lo c.in-Span-meet.high c.fraction.result (begin c) in
    let last = quotient_fits (int_min c.in-Span.hi c.in-Span-meet.low) c.in-Span-meet.low c.fraction-2.result (end c) in
    let rises = quotients_rise c.in-Span.lo c.in-Span.hi c.in-Span-meet.low c.in-Span-meet.high c.fraction.result c.fraction-2.result some some' (begin c) (end c) meets valid.0 valid.1 in
    (omega (arith, ints, first, last, rises), omega (arith, ints, first), omega (arith, ints, last))

pub returns-clause-least : goal.returns-clause-least
returns-clause-least c =
    let (some, low, high) = c.in-Span.ensures.range in
    let (some', low', high') = c.in-Span-meet.ensures.range in
    let meets : c.in-Span.lo ≤ℤ c.in-Span-meet.high = omega (arith, ints, c.if-high-lo.false, low, high') in
    let first = quotient_fits c.in-Span.lo c.in-Span-meet.high c.fraction.result (begin c) in
    let last = quotient_fits (int_min c.in-Span.hi c.in-Span-meet.low) c.in-Span-meet.low c.fraction-2.result (end c) in
    rw (read_end c.fraction.result (omega (arith, ints, first)), read_end c.fraction-2.result (omega (arith, ints, last)))
    (quotients c.args.dividend c.args.divisor c.in-Span.lo c.in-Span.hi c.in-Span-meet.low c.in-Span-meet.high c.fraction.result c.fraction-2.result
    c.requires.dividend c.requires.divisor some some' c.in-Span.ensures.common c.in-Span-meet.ensures.common meets (begin c) (end c))
