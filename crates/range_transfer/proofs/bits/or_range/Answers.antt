use Rattle.std.proofs.Common.{arith, ℤ, pos, ◌≡◌, ◌-ℤ◌, ap, inl, inr, w64, to_z, of_z}
use Rattle.std.proofs.lemmas.Int.{ints, clamps}
use Rattle.range_core.specs.declared.range.Range.TheVariants.{Span}
use Rattle.range_transfer.proofs.bits.or_range.Goals as goal

pub returns-then-min-lt0-clause-or : goal.returns-then-min-lt0-clause-or
returns-then-min-lt0-clause-or c =
    let left = rw c.in-Span.is at c.requires.left in
    let right = rw c.in-Span-right.is at c.requires.right in
    rw (c.in-Span.is, c.in-Span-right.is) record {
      both = λ a b. absurd (omega (arith, ints, clamps, a, b, left.1, right.1));
      negative = λ a. c.bit_hull.ensures.hull;
    }

pub returns-clause-or : goal.returns-clause-or
returns-clause-or c =
    let left = rw c.in-Span.is at c.requires.left in
    let right = rw c.in-Span-right.is at c.requires.right in
    let power = c.power_of_hull.result in
    let (k, hull, is) = c.power_of_hull.ensures.hull in
    let few = c.power_of_hull.ensures.few in
    let e : to_z w64 (of_z w64 (to_z w64 (of_z w64 power) -ℤ pos 1)) ≡ power -ℤ pos 1 = omega (arith, ints, few, is) in
    rw (c.in-Span.is, c.in-Span-right.is) record {
      both = λ a b. (power, c.power_of_hull.ensures.hull, ap (λ (h : ℤ). Span (pos 0) h) e);
      negative = λ a. absurd (elim a [ inl h ↦ omega (arith, ints, clamps, h, left.1, right.1) | inr h ↦ omega (arith, ints, clamps, h, left.1, right.1) ]);
    }
