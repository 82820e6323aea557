use Rattle.std.proofs.Common.{arith}
use Rattle.std.proofs.lemmas.Int.{ints, clamps}
use Rattle.range_core.proofs.Ranges.{joined}
use Rattle.range_core.proofs.range.join.Goals as goal

pub returns-clause-range : goal.returns-clause-range
returns-clause-range c =
    let left = rw c.in-Span.is at c.requires.left in
    let right = rw c.in-Span-right.is at c.requires.right in
    (omega (arith, ints, clamps, left.0, right.0), omega (arith, ints, clamps, left.1, right.1), omega (arith, ints, clamps, left.2, right.2))

pub returns-clause-least : goal.returns-clause-least
returns-clause-least c =
    let left = rw c.in-Span.is at c.requires.left in
    let right = rw c.in-Span-right.is at c.requires.right in
    rw (c.in-Span.is, c.in-Span-right.is)
    (joined c.in-Span.lo c.in-Span.hi c.in-Span-right.low c.in-Span-right.high _ _ left.0 right.0 (omega (arith, ints, clamps)) (omega (arith, ints, clamps)))
