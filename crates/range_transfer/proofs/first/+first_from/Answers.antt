use Rattle.std.proofs.Common.{◌≡◌, ◌-◌, ◌∷◌, length, take, drop, rules}
use Rattle.range_core.specs.declared.range.Range.TheVariants.{Span}
use Rattle.range_transfer.specs.Box.{operands_of}
use Rattle.range_transfer.specs.Site.{Answers, kind_of}
use Rattle.range_transfer.proofs.Order.{read_ranges, head_range, tail_ranges, end_is, step, low_fits, high_fits, first_low, first_high}
use Rattle.range_transfer.proofs.first.+first_from.Goals as goal

pub first_from-requires : goal.first_from-requires
first_from-requires t c =
    let ranges = c.args.ranges.now in
    let tail = take (length ranges - 1) (drop 1 ranges) in
    let lo = c.in-Span.lo in
    let hi = c.in-Span.hi in
    let given = operands_of c.args.given in
    let whole : ranges ≡ Span lo hi ∷ tail = read_ranges ranges (Span lo hi) c.in-len1-up.len_at_least c.in-Span.is in
    let range = head_range ranges tail lo hi whole c.requires.ranges in
    let low = step given (operands_of c.with.result) _ lo c.with.ensures.operands (end_is lo range.1) in
    (search rules, (c.requires.boxed, (search rules, (tail_ranges ranges tail lo hi whole c.requires.ranges, low_fits (kind_of c.args.question) given (operands_of c.with.result) ranges tail lo hi whole low c.requires.fit))))

pub first_from-requires-in-None : goal.first_from-requires-in-None
first_from-requires-in-None t c =
    let ranges = c.args.ranges.now in
    let tail = take (length ranges - 1) (drop 1 ranges) in
    let lo = c.in-Span.lo in
    let hi = c.in-Span.hi in
    let given = operands_of c.args.given in
    let whole : ranges ≡ Span lo hi ∷ tail = read_ranges ranges (Span lo hi) c.in-len1-up.len_at_least c.in-Span.is in
    let range = head_range ranges tail lo hi whole c.requires.ranges in
    let high = step given (operands_of c.with-in-None.result) _ hi c.with-in-None.ensures.operands (end_is hi range.2) in
    (search rules, (c.requires.boxed, (search rules, (tail_ranges ranges tail lo hi whole c.requires.ranges, high_fits (kind_of c.args.question) given (operands_of c.with-in-None.result) ranges tail lo hi whole high c.requires.fit))))

pub returns-in-Some : goal.returns-in-Some
returns-in-Some t c =
    let ranges = c.args.ranges.now in
    let tail = take (length ranges - 1) (drop 1 ranges) in
    let lo = c.in-Span.lo in
    let hi = c.in-Span.hi in
    let given = operands_of c.args.given in
    let whole : ranges ≡ Span lo hi ∷ tail = read_ranges ranges (Span lo hi) c.in-len1-up.len_at_least c.in-Span.is in
    let range = head_range ranges tail lo hi whole c.requires.ranges in
    let low = step given (operands_of c.with.result) _ lo c.with.ensures.operands (end_is lo range.1) in
    first_low (Answers c.args.question) given (operands_of c.with.result) ranges tail lo hi (operands_of c.in-Some.corner) whole low c.in-Some.ensures

pub returns-in-None : goal.returns-in-None
returns-in-None t c =
    let ranges = c.args.ranges.now in
    let tail = take (length ranges - 1) (drop 1 ranges) in
    let lo = c.in-Span.lo in
    let hi = c.in-Span.hi in
    let given = operands_of c.args.given in
    let whole : ranges ≡ Span lo hi ∷ tail = read_ranges ranges (Span lo hi) c.in-len1-up.len_at_least c.in-Span.is in
    let range = head_range ranges tail lo hi whole c.requires.ranges in
    let low = step given (operands_of c.with.result) _ lo c.with.ensures.operands (end_is lo range.1) in
    let high = step given (operands_of c.with-in-None.result) _ hi c.with-in-None.ensures.operands (end_is hi range.2) in
    first_high (Answers c.args.question) given (operands_of c.with.result) (operands_of c.with-in-None.result) ranges tail lo hi c.first_from-in-None.result whole low high c.in-None.ensures c.first_from-in-None.ensures
