use Rattle.operator_meaning.specs.Table.{row_of}
use Rattle.operator_meaning.specs.declared.site.SiteKind.TheVariants.{Call}
use Rattle.range_transfer.specs.Site.{number_of}
use Rattle.range_transfer.proofs.Numbers.{steady_between}
use Rattle.range_transfer.proofs.Ops.{op_steady, is_cornered}
use Rattle.range_transfer.proofs.operators.image.Goals as goal

pub image_at_corners-requires : goal.image_at_corners-requires
image_at_corners-requires c =
    let others = c.in_default in
    let cornered = is_cornered c.args.op others.not-AbsS others.not-LAbs others.not-ExtractL others.not-NormS others.not-NormL others.not-DivS in
    record {
      valued = others.not-DivS;
      operands = c.requires;
      between = steady_between (row_of c.args.op).takes (number_of (Call c.args.op)) c.args.operands.now (op_steady c.shifts_round.ensures c.args.op cornered) c.requires;
    }
