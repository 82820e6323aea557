use Rattle.std.proofs.Common.{arith}
use Rattle.operator_meaning.specs.Clipping.{Clips}
use Rattle.operator_meaning.specs.Table.{row_of}
use Rattle.operator_meaning.specs.declared.site.SiteKind.TheVariants.{Call}
use Rattle.range_transfer.specs.Box.{operands_of}
use Rattle.range_transfer.specs.Site.{widths_of}
use Rattle.range_transfer.proofs.Clips.{clips_reach}
use Rattle.range_transfer.proofs.Reach.{first_corner, corners_fit, length_fits, ranges_fit}
use Rattle.range_transfer.proofs.Stops.{few_widths}
use Rattle.range_transfer.proofs.first.saturating_corner.Goals as goal

pub first_from-requires : goal.first_from-requires
first_from-requires c =
    record {
      boxed = tt;
      count = omega (arith, c.none.ensures.count, length_fits (widths_of (Call c.args.op)) c.args.operands.now c.requires, few_widths (Call c.args.op));
      ranges = ranges_fit (widths_of (Call c.args.op)) c.args.operands.now c.requires;
      fit = corners_fit (Call c.args.op) (operands_of c.none.result) c.args.operands.now c.requires c.none.ensures.operands;
    }

pub returns : goal.returns
returns c =
    let op = c.args.op in
    first_corner (row_of op).takes (Clips op) (operands_of c.none.result) c.args.operands.now c.first_from.result (clips_reach op) c.requires c.none.ensures.operands c.first_from.ensures
