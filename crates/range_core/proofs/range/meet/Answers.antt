use Rattle.std.proofs.Common.{arith}
use Rattle.std.proofs.lemmas.Int.{ints, clamps}
use Rattle.range_core.proofs.range.meet.Goals as goal

pub returns-then-lo-hi-clause-common : goal.returns-then-lo-hi-clause-common
returns-then-lo-hi-clause-common c =
    rw (c.in-Span.is, c.in-Span-right.is)
    (λ x. (
      λ h. ((omega (arith, ints, clamps, h), omega (arith, ints, clamps, h)), (omega (arith, ints, clamps, h), omega (arith, ints, clamps, h))),
      λ h. (omega (arith, ints, clamps, h.0, h.1), omega (arith, ints, clamps, h.0, h.1)),
    ))

pub returns-else-lo-hi-clause-common : goal.returns-else-lo-hi-clause-common
returns-else-lo-hi-clause-common c =
    rw (c.in-Span.is, c.in-Span-right.is) (λ x. (λ h. absurd h, λ h. omega (arith, ints, clamps, h.0, h.1)))
