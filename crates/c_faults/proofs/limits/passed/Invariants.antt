use Rattle.std.proofs.Common.{◌≡◌, drop}
use Rattle.c_faults.specs.Limits.{first_past, passed}
use Rattle.c_faults.proofs.limits.passed.Given as goal

abbrev pub invariant-loop-one : goal.invariant-loop-one
invariant-loop-one l = first_past l.quantity l.left (drop l.one-index l.seen) ≡ passed l.fn.quantity l.fn.seen
