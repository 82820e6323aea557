use Rattle.std.proofs.Common.{arith, negsuc, w32, FitsSigned, to_z, of_z}
use Rattle.std.proofs.lemmas.Int.{ints, to_z-of_z}
use Rattle.range_core.proofs.Search.{gap_from_search, some_before, below_gap}
use Rattle.range_core.proofs.rounding.Thresholds.below.Goals as goal

pub overflow_sub-place : goal.overflow_sub-place
overflow_sub-place c =
    let x = c.args.x in
    let gap = gap_from_search c.self.inside.values.items c.deref.result.now x (to_z w32 (of_z w32 x)) c.in-Err.place c.self.invariant c.deref.ensures.value (to_z-of_z w32 x c.ranges.x) c.in-Err.ensures.position in
    some_before c.self.inside.values.items x c.in-Err.place c.self.invariant c.ranges.x gap

pub returns-in-Err : goal.returns-in-Err
returns-in-Err c =
    let x = c.args.x in
    let low = c.index.result.now in
    let gap = gap_from_search c.self.inside.values.items c.deref.result.now x (to_z w32 (of_z w32 x)) c.in-Err.place c.self.invariant c.deref.ensures.value (to_z-of_z w32 x c.ranges.x) c.in-Err.ensures.position in
    let below = below_gap c.self.inside.values.items x c.in-Err.place low c.self.invariant c.ranges.x gap c.index.ensures in
    let least = below.greatest (negsuc 2147483647) c.self.invariant.lowest (omega (arith, ints, c.ranges.x)) in
    let fits : FitsSigned w32 low = omega (arith, ints, below.not_above, least, c.ranges.x) in
    rw (to_z-of_z w32 low fits, ← c.self.view_is) below
