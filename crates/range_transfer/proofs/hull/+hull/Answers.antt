use Rattle.std.proofs.Common.{◌≡◌, ◌-◌, ◌∷◌, length, take, drop, arith, rules, w64, to_z, of_z}
use Rattle.std.proofs.lemmas.Int.{ints, clamps}
use Rattle.range_core.specs.declared.range.Range.TheVariants.{Span}
use Rattle.range_transfer.specs.Box.{operands_of}
use Rattle.range_transfer.specs.Site.{number_of}
use Rattle.range_transfer.proofs.Order.{read_ranges, head_range, tail_ranges, end_is, step, low_fits, high_fits}
use Rattle.range_transfer.proofs.Extremes.{extremes_of_span}
use Rattle.range_transfer.proofs.hull.+hull.Goals as goal

pub hull-requires : goal.hull-requires
hull-requires t c =
    let ranges = c.args.ranges.now in
    let tail = take (length ranges - 1) (drop 1 ranges) in
    let lo = c.in-Span.lo in
    let hi = c.in-Span.hi in
    let given = operands_of c.args.given in
    let whole : ranges ≡ Span lo hi ∷ tail = read_ranges ranges (Span lo hi) c.in-len1-up.len_at_least c.in-Span.is in
    let range = head_range ranges tail lo hi whole c.requires.ranges in
    let low = step given (operands_of c.with.result) _ lo c.with.ensures.operands (end_is lo range.1) in
    (search rules, (c.requires.gives, (search rules, (tail_ranges ranges tail lo hi whole c.requires.ranges, low_fits c.args.kind given (operands_of c.with.result) ranges tail lo hi whole low c.requires.fit))))

pub hull-requires-2 : goal.hull-requires-2
hull-requires-2 t c =
    let ranges = c.args.ranges.now in
    let tail = take (length ranges - 1) (drop 1 ranges) in
    let lo = c.in-Span.lo in
    let hi = c.in-Span.hi in
    let given = operands_of c.args.given in
    let whole : ranges ≡ Span lo hi ∷ tail = read_ranges ranges (Span lo hi) c.in-len1-up.len_at_least c.in-Span.is in
    let range = head_range ranges tail lo hi whole c.requires.ranges in
    let high = step given (operands_of c.with-2.result) _ hi c.with-2.ensures.operands (end_is hi range.2) in
    (search rules, (c.requires.gives, (search rules, (tail_ranges ranges tail lo hi whole c.requires.ranges, high_fits c.args.kind given (operands_of c.with-2.result) ranges tail lo hi whole high c.requires.fit))))

pub returns : goal.returns
returns t c =
    let ranges = c.args.ranges.now in
    let tail = take (length ranges - 1) (drop 1 ranges) in
    let lo = c.in-Span.lo in
    let hi = c.in-Span.hi in
    let given = operands_of c.args.given in
    let whole : ranges ≡ Span lo hi ∷ tail = read_ranges ranges (Span lo hi) c.in-len1-up.len_at_least c.in-Span.is in
    let range = head_range ranges tail lo hi whole c.requires.ranges in
    let low = step given (operands_of c.with.result) _ lo c.with.ensures.operands (end_is lo range.1) in
    let high = step given (operands_of c.with-2.result) _ hi c.with-2.ensures.operands (end_is hi range.2) in
    let first = c.in_ok-low.low in
    let second = c.in_ok-high.high in
    extremes_of_span (number_of c.args.kind) given (operands_of c.with.result) (operands_of c.with-2.result) ranges tail lo hi first.least first.most second.least second.most
    (to_z w64 (of_z w64 c.min.result)) (to_z w64 (of_z w64 c.max.result)) whole low high c.in_ok-low.ensures c.in_ok-high.ensures
    (omega (arith, ints, clamps)) (omega (arith, ints, clamps))
