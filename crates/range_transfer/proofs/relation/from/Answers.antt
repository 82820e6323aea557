use Rattle.std.proofs.Common.{arith}
use Rattle.std.proofs.lemmas.Int.{ints, clamps}
use Rattle.range_transfer.proofs.relation.from.Goals as goal

pub returns-in-Span-clause-values : goal.returns-in-Span-clause-values
returns-in-Span-clause-values c =
    let range = rw c.in-Span.is at c.requires in
    rw c.in-Span.is (λ x. (
      λ h. ((omega (arith, ints, clamps, h), omega (arith, ints, h, range.2)), omega (arith, ints, clamps, h)),
      λ h. (omega (arith, ints, clamps, h.0, h.1), omega (arith, ints, h.0, range.2)),
    ))
