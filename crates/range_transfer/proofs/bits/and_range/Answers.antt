use Rattle.std.proofs.Common.{arith, pos, ◌<ℤ◌}
use Rattle.std.proofs.lemmas.Int.{ints}
use Rattle.range_transfer.proofs.bits.and_range.Goals as goal

pub returns-then-low-lt0-clause-and : goal.returns-then-low-lt0-clause-and
returns-then-low-lt0-clause-and c =
    let left = rw c.in-Span.is at c.requires.left in
    let right = rw c.in-Span-right.is at c.requires.right in
    let first : c.in-Span.lo <ℤ pos 0 = omega (arith, ints, left.1, c.if-lo-lt0.true) in
    let second : c.in-Span-right.low <ℤ pos 0 = omega (arith, ints, right.1, c.if-low-lt0.true) in
    rw (c.in-Span.is, c.in-Span-right.is) record {
      both = λ a b. absurd (omega (arith, ints, a, first));
      first = λ a b. absurd (omega (arith, ints, a, first));
      second = λ a b. absurd (omega (arith, ints, b, second));
      neither = λ a b. c.bit_hull.ensures.hull;
    }
