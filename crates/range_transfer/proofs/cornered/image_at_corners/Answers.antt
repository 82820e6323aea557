use Rattle.std.proofs.Common.{◌≡◌, List, ℤ, Some, arith}
use Rattle.operator_meaning.specs.Table.{row_of}
use Rattle.operator_meaning.specs.Value.{value_of}
use Rattle.range_core.specs.Range.{IsRange}
use Rattle.range_core.specs.declared.range.Range.TheVariants.{Span}
use Rattle.operator_meaning.specs.declared.site.SiteKind.TheVariants.{Call}
use Rattle.range_transfer.specs.Box.{operands_of, IsInBox}
use Rattle.range_transfer.specs.Image.{IsValueOn}
use Rattle.range_transfer.specs.Site.{widths_of, number_of}
use Rattle.range_transfer.proofs.Least.{none_is_least}
use Rattle.range_transfer.proofs.Numbers.{empty_box, bounds_between, Bounds, least_of_bounds, range_of_bounds, read_end}
use Rattle.range_transfer.proofs.Ops.{valued}
use Rattle.range_transfer.proofs.Reach.{corners_fit, length_fits, ranges_fit, box_fits}
use Rattle.range_transfer.proofs.Stops.{few_widths}
use Rattle.range_transfer.proofs.cornered.image_at_corners.Goals as goal

pub hull-requires : goal.hull-requires
hull-requires c =
    record {
      gives = tt;
      count = omega (arith, c.none.ensures.count, length_fits (widths_of (Call c.args.op)) c.args.operands.now c.requires.operands, few_widths (Call c.args.op));
      ranges = ranges_fit (widths_of (Call c.args.op)) c.args.operands.now c.requires.operands;
      fit = corners_fit (Call c.args.op) (operands_of c.none.result) c.args.operands.now c.requires.operands c.none.ensures.operands;
    }

pub returns-in_default-clause-least : goal.returns-in_default-clause-least
returns-in_default-clause-least c = none_is_least (IsValueOn c.args.op c.args.operands.now) (λ x (args, in', e). empty_box c.args.operands.now args c.in_default.ensures in')

bounds : (c : goal.After-struct_told-1) → Bounds (number_of (Call c.args.op)) c.args.operands.now c.in-Some.found.least c.in-Some.found.most
bounds c =
    bounds_between (row_of c.args.op).takes (number_of (Call c.args.op)) (operands_of c.none.result) c.args.operands.now c.in-Some.found.least c.in-Some.found.most
    c.requires.between c.requires.operands c.none.ensures.operands c.in-Some.ensures

has_value : (c : goal.After-struct_told-1) (args : List ℤ) → IsInBox args c.args.operands.now → value_of c.args.op args ≡ Some (number_of (Call c.args.op) args)
has_value c args in' = valued c.args.op c.requires.valued args (box_fits (row_of c.args.op).takes c.args.operands.now args c.requires.operands in')

range : (c : goal.After-struct_told-1) → IsRange (Span c.in-Some.found.least c.in-Some.found.most)
range c =
    range_of_bounds c.args.op c.args.operands.now c.in-Some.found.least c.in-Some.found.most
    (λ args in'. c.values_fit.ensures c.args.op args (number_of (Call c.args.op) args) (box_fits (row_of c.args.op).takes c.args.operands.now args c.requires.operands in') (has_value c args in')) (bounds c)

pub returns-clause-range : goal.returns-clause-range
returns-clause-range c =
    let (some, low, high) = range c in
    rw (read_end c.in-Some.found.least low, read_end c.in-Some.found.most high) (range c)

pub returns-clause-least : goal.returns-clause-least
returns-clause-least c =
    let (some, low, high) = range c in
    rw (read_end c.in-Some.found.least low, read_end c.in-Some.found.most high)
    (least_of_bounds c.args.op c.args.operands.now c.in-Some.found.least c.in-Some.found.most (has_value c) (bounds c))
