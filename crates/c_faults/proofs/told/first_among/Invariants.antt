use Rattle.std.proofs.Common.{◌≡◌, drop}
use Rattle.sat_base.specs.Faults.{lesser}
use Rattle.c_faults.specs.Told.{first_among}
use Rattle.c_faults.proofs.told.first_among.Given as goal

abbrev pub invariant-loop-fault : goal.invariant-loop-fault
invariant-loop-fault l = lesser l.first (first_among (drop l.fault-index l.faults)) ≡ first_among l.fn.faults
