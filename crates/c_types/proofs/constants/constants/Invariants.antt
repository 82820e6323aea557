use Rattle.std.proofs.Common.{◌≡◌, ◌++◌, drop}
use Rattle.c_types.specs.Constants.{constants_after, constants_of}
use Rattle.c_types.proofs.constants.constants.Given as goal

abbrev pub invariant-loop-one : goal.invariant-loop-one
invariant-loop-one l = l.constants ++ constants_after l.values.keys (drop l.one-index l.seen) ≡ constants_of l.fn.seen
