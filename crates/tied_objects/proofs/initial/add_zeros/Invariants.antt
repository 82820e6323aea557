use Rattle.std.proofs.Common.{◌≡◌, ◌++◌}
use Rattle.std.specs.Prelude.{pos, replicate}
use Rattle.tied_objects.proofs.initial.add_zeros.Given as goal

abbrev pub invariant-loop-left : goal.invariant-loop-left
invariant-loop-left l = l.values ++ replicate l.left (pos 0) ≡ l.fn.values ++ replicate l.fn.count (pos 0)

abbrev pub decreases-loop-left : goal.decreases-loop-left
decreases-loop-left l = l.left
