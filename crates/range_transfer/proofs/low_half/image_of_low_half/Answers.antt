use Rattle.std.proofs.Common.{◌≤ℤ◌, ◌<ℤ◌, arith}
use Rattle.std.proofs.lemmas.Int.{ints}
use Rattle.range_transfer.proofs.Low.{run_of, low_rises}
use Rattle.range_transfer.proofs.Runs.{low_in_run, low_over_runs, read_low, read_run, same_run}
use Rattle.range_transfer.proofs.low_half.image_of_low_half.Goals as goal

pub returns-then-run-clause-least : goal.returns-then-run-clause-least
returns-then-run-clause-least c =
    let range = rw c.in-Span.is at c.requires in
    let first = read_run c.in-Span.lo c.run.result range.1 c.run.ensures in
    let last = read_run c.in-Span.hi c.run-2.result range.2 c.run-2.ensures in
    let less : run_of c.in-Span.lo <ℤ run_of c.in-Span.hi = omega (arith, ints, first, last, c.if-run.true) in
    rw c.in-Span.is (low_over_runs c.in-Span.lo c.in-Span.hi range.0 less)

pub returns-clause-range : goal.returns-clause-range
returns-clause-range c =
    let range = rw c.in-Span.is at c.requires in
    let first = read_run c.in-Span.lo c.run.result range.1 c.run.ensures in
    let last = read_run c.in-Span.hi c.run-2.result range.2 c.run-2.ensures in
    let less : run_of c.in-Span.hi ≤ℤ run_of c.in-Span.lo = omega (arith, ints, first, last, c.if-run.false) in
    let low = read_low c.in-Span.lo c.low16.result c.from.result range.1 c.low16.ensures.value c.low16.ensures.fits c.from.ensures in
    let high = read_low c.in-Span.hi c.low16-2.result c.from-2.result range.2 c.low16-2.ensures.value c.low16-2.ensures.fits c.from-2.ensures in
    let rises = low_rises c.in-Span.lo c.in-Span.hi c.in-Span.hi range.0 (omega (arith, ints)) (same_run c.in-Span.lo c.in-Span.hi range.0 less) in
    (omega (arith, ints, low, high, rises.0), omega (arith, ints, c.low16.ensures.fits, c.from.ensures), omega (arith, ints, c.low16-2.ensures.fits, c.from-2.ensures))

pub returns-clause-least : goal.returns-clause-least
returns-clause-least c =
    let range = rw c.in-Span.is at c.requires in
    let first = read_run c.in-Span.lo c.run.result range.1 c.run.ensures in
    let last = read_run c.in-Span.hi c.run-2.result range.2 c.run-2.ensures in
    let less : run_of c.in-Span.hi ≤ℤ run_of c.in-Span.lo = omega (arith, ints, first, last, c.if-run.false) in
    let low = read_low c.in-Span.lo c.low16.result c.from.result range.1 c.low16.ensures.value c.low16.ensures.fits c.from.ensures in
    let high = read_low c.in-Span.hi c.low16-2.result c.from-2.result range.2 c.low16-2.ensures.value c.low16-2.ensures.fits c.from-2.ensures in
    rw c.in-Span.is (low_in_run c.in-Span.lo c.in-Span.hi _ _ range.0 less low high)
