use Rattle.std.proofs.Common.{◌≡◌, take}
use Rattle.sat_compile.specs.Checked.{names_in}
use Rattle.sat_compile.proofs.checking.recursive.Given as goal

abbrev pub invariant-loop-number : goal.invariant-loop-number
invariant-loop-number l = l.names ≡ names_in l.typed.functions (take l.number-index l.cycle)
