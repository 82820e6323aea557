use Rattle.std.proofs.Common.{length}
use Rattle.range_transfer.proofs.hull.+hull.Given as goal

abbrev pub decreases-hull : goal.decreases-hull
decreases-hull l = length l.ranges.now
