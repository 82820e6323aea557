use Rattle.std.proofs.Common.{arith, w64, to_z, of_z}
use Rattle.std.proofs.lemmas.Int.{ints}
use Rattle.range_core.proofs.Ranges.{covered_by_test, not_covered_by_test}
use Rattle.range_core.proofs.range.contains.Goals as goal

pub returns-in_default-outer : goal.returns-in_default-outer
returns-in_default-outer c =
    let some = rw c.in-Span.is at c.requires.inner in
    rw (c.in_default-outer.is, c.in-Span.is) (λ t. cc, λ covers. absurd (covers c.in-Span.lo (omega (arith, ints), some.0)))

pub returns-then-low-lo : goal.returns-then-low-lo
returns-then-low-lo c =
    let inner = rw c.in-Span.is at c.requires.inner in
    let outer = rw c.in-Span-outer.is at c.requires.outer in
    let hi = c.in-Span.hi in
    let high = c.in-Span-outer.high in
    rw (c.in-Span.is, c.in-Span-outer.is)
    (covered_by_test c.in-Span-outer.low high c.in-Span.lo hi (to_z w64 (of_z w64 hi)) (to_z w64 (of_z w64 high)) inner.0
    (omega (arith, ints, inner, outer, c.if-low-lo.true)) (omega (arith, ints, inner.2)) (omega (arith, ints, outer.2)))

pub returns-else-low-lo : goal.returns-else-low-lo
returns-else-low-lo c =
    let inner = rw c.in-Span.is at c.requires.inner in
    let outer = rw c.in-Span-outer.is at c.requires.outer in
    let lo = c.in-Span.lo in
    let low = c.in-Span-outer.low in
    rw (c.in-Span.is, c.in-Span-outer.is)
    (not_covered_by_test low c.in-Span-outer.high lo c.in-Span.hi (to_z w64 (of_z w64 low)) (to_z w64 (of_z w64 lo)) inner.0
    (grind (arith, ints, inner.1, outer.1, c.if-low-lo.false)) (omega (arith, ints, outer.1)) (omega (arith, ints, inner.1)))
