use Rattle.std.proofs.Common.{arith, ℕ, pos, neg_ℤ, ◌≤ℤ◌, ◌<ℤ◌, unsigned_abs, w64, to_z, of_z}
use Rattle.std.proofs.lemmas.Int.{ints, clamps}
use Rattle.range_transfer.proofs.Powers.{reach_covers, reach_least}
use Rattle.range_transfer.proofs.bits.reach.Goals as goal

pub returns-in-Span-clause-covers : goal.returns-in-Span-clause-covers
returns-in-Span-clause-covers c =
    let range = rw c.in-Span.is at c.requires in
    let r = unsigned_abs (to_z w64 (of_z w64 c.max.result)) in
    let low : neg_ℤ (pos r) ≤ℤ c.in-Span.lo = omega (arith, ints, clamps, range.0, range.1, range.2) in
    let high : c.in-Span.hi <ℤ pos r = omega (arith, ints, clamps, range.0, range.1, range.2) in
    rw c.in-Span.is (reach_covers c.in-Span.lo c.in-Span.hi r low high)

pub returns-in-Span-clause-least : goal.returns-in-Span-clause-least
returns-in-Span-clause-least c =
    let range = rw c.in-Span.is at c.requires in
    let r = unsigned_abs (to_z w64 (of_z w64 c.max.result)) in
    rw c.in-Span.is (λ n some covers.
    reach_least c.in-Span.lo c.in-Span.hi r range.0 (λ (m : ℕ) (low : neg_ℤ (pos m) ≤ℤ c.in-Span.lo) (high : c.in-Span.hi <ℤ pos m). omega (arith, ints, clamps, range.0, range.1, range.2, low, high)) n covers)
