use Rattle.std.proofs.Common.{arith}
use Rattle.range_transfer.specs.Box.{operands_of}
use Rattle.range_transfer.specs.Site.{widths_of, Stops}
use Rattle.range_transfer.proofs.Reach.{first_corner, corners_fit, length_fits, ranges_fit}
use Rattle.range_transfer.proofs.Stops.{stops_reach, few_widths}
use Rattle.range_transfer.proofs.first.stopping_corner.Goals as goal

pub first_from-requires : goal.first_from-requires
first_from-requires c =
    record {
      boxed = c.requires.boxed;
      count = omega (arith, c.none.ensures.count, length_fits (widths_of c.args.kind) c.args.operands.now c.requires.operands, few_widths c.args.kind);
      ranges = ranges_fit (widths_of c.args.kind) c.args.operands.now c.requires.operands;
      fit = corners_fit c.args.kind (operands_of c.none.result) c.args.operands.now c.requires.operands c.none.ensures.operands;
    }

pub returns : goal.returns
returns c =
    let kind = c.args.kind in
    first_corner (widths_of kind) (Stops kind) (operands_of c.none.result) c.args.operands.now c.first_from.result (stops_reach kind c.requires.boxed) c.requires.operands c.none.ensures.operands c.first_from.ensures
