use Rattle.std.proofs.Common.{arith, w64, to_z, of_z}
use Rattle.std.proofs.lemmas.Int.{ints, clamps}
use Rattle.range_transfer.specs.Box.{operands_of}
use Rattle.range_transfer.specs.Site.{widths_of, number_of}
use Rattle.range_transfer.proofs.Numbers.{plain_steady, plain_gives, empty_box, bounds_of, lies_between}
use Rattle.range_transfer.proofs.Reach.{corners_fit, length_fits, ranges_fit}
use Rattle.range_transfer.proofs.Stops.{few_widths}
use Rattle.range_transfer.proofs.plain.image_plain.Goals as goal

pub hull-requires : goal.hull-requires
hull-requires c =
    record {
      gives = plain_gives c.args.kind c.requires.plain;
      count = omega (arith, c.none.ensures.count, length_fits (widths_of c.args.kind) c.args.operands.now c.requires.operands, few_widths c.args.kind);
      ranges = ranges_fit (widths_of c.args.kind) c.args.operands.now c.requires.operands;
      fit = corners_fit c.args.kind (operands_of c.none.result) c.args.operands.now c.requires.operands c.none.ensures.operands;
    }

pub returns-in_default-clause-values : goal.returns-in_default-clause-values
returns-in_default-clause-values c = λ x. (λ h. absurd h, λ h. let (args, in', le) = h.1 in empty_box c.args.operands.now args c.in_default.ensures in')

pub returns-then-lo-hi-clause-values : goal.returns-then-lo-hi-clause-values
returns-then-lo-hi-clause-values c = λ x.
    let found = c.in-Some.found in
    let steady = plain_steady c.args.kind c.requires.plain in
    let bounds = bounds_of (widths_of c.args.kind) (number_of c.args.kind) (operands_of c.none.result) c.args.operands.now found.least found.most steady c.requires.operands c.none.ensures.operands c.in-Some.ensures in
    lies_between c.args.kind c.args.operands.now found.least found.most (to_z w64 (of_z w64 c.max-lo.result)) (to_z w64 (of_z w64 c.min-hi.result)) x bounds
    (omega (arith, ints, clamps)) (omega (arith, ints, clamps))

pub returns-else-lo-hi-clause-values : goal.returns-else-lo-hi-clause-values
returns-else-lo-hi-clause-values c = λ x.
    let found = c.in-Some.found in
    let steady = plain_steady c.args.kind c.requires.plain in
    let bounds = bounds_of (widths_of c.args.kind) (number_of c.args.kind) (operands_of c.none.result) c.args.operands.now found.least found.most steady c.requires.operands c.none.ensures.operands c.in-Some.ensures in (
      λ h. absurd h,
      λ h.
          let between = (lies_between c.args.kind c.args.operands.now found.least found.most (to_z w64 (of_z w64 c.max-lo.result)) (to_z w64 (of_z w64 c.min-hi.result)) x bounds
          (omega (arith, ints, clamps)) (omega (arith, ints, clamps))).1 h in
          omega (arith, ints, between.0, between.1),
    )
