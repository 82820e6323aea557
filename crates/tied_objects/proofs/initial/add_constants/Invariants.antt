use Rattle.std.proofs.Common.{◌≡◌, ◌++◌, drop, map}
use Rattle.tied_objects.specs.Initial.{constant}
use Rattle.tied_objects.proofs.initial.add_constants.Given as goal

abbrev pub invariant-loop-e : goal.invariant-loop-e
invariant-loop-e l = l.values ++ map (constant l.width) (drop l.e-index l.listed) ≡ l.fn.values ++ map (constant l.width) l.fn.listed
