use Rattle.std.proofs.Common.{arith, ap, length, pos, w32, FitsSigned, to_z, of_z}
use Rattle.std.proofs.lemmas.Int.{ints, to_z-of_z}
use Rattle.range_core.proofs.Search.{gap_from_search, some_after, above_gap}
use Rattle.range_core.proofs.rounding.Thresholds.above.Goals as goal

pub index-requires : goal.index-requires
index-requires c =
    let x = c.args.x in
    let gap = gap_from_search c.self.inside.values.items c.deref.result.now x (to_z w32 (of_z w32 x)) c.in-Err.place c.self.invariant c.deref.ensures.value (to_z-of_z w32 x c.ranges.x) c.in-Err.ensures.position in
    let within = some_after c.self.inside.values.items x c.in-Err.place c.self.invariant c.ranges.x gap in
    omega (arith, ap length c.deref.ensures.value, c.deref.ensures.len, within)

pub returns-in-Err : goal.returns-in-Err
returns-in-Err c =
    let x = c.args.x in
    let high = c.index.result.now in
    let gap = gap_from_search c.self.inside.values.items c.deref.result.now x (to_z w32 (of_z w32 x)) c.in-Err.place c.self.invariant c.deref.ensures.value (to_z-of_z w32 x c.ranges.x) c.in-Err.ensures.position in
    let above = above_gap c.self.inside.values.items x c.in-Err.place high c.self.invariant c.ranges.x gap c.index.ensures in
    let most = above.least (pos 2147483647) c.self.invariant.highest (omega (arith, ints, c.ranges.x)) in
    let fits : FitsSigned w32 high = omega (arith, ints, above.not_below, most, c.ranges.x) in
    rw (to_z-of_z w32 high fits, ← c.self.view_is) above
