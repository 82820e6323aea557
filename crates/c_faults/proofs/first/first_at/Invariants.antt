use Rattle.std.proofs.Common.{◌≡◌, drop}
use Rattle.std.specs.Prelude.{flat_map}
use Rattle.sat_base.specs.Faults.{lesser}
use Rattle.c_faults.specs.Faults.{faults_at}
use Rattle.c_faults.specs.Told.{first_of}
use Rattle.c_faults.proofs.first.first_at.Given as goal

abbrev pub invariant-loop-one : goal.invariant-loop-one
invariant-loop-one l = lesser l.first (first_of (flat_map faults_at (drop l.one-index l.seen))) ≡ first_of (flat_map faults_at l.fn.seen)
