use Rattle.std.proofs.Common.{◌≡◌, drop}
use Rattle.c_faults.specs.Limits.{first_constant_past, constants_passed}
use Rattle.c_faults.proofs.limits.constants_passed.Given as goal

abbrev pub invariant-loop-one : goal.invariant-loop-one
invariant-loop-one l = first_constant_past l.values.keys (drop l.one-index l.seen) ≡ constants_passed l.fn.seen
