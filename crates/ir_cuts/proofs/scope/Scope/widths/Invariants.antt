use Rattle.std.proofs.Common.{◌≡◌, ◌++◌, drop}
use Rattle.ir_cuts.specs.Cuts.{widths_of}
use Rattle.ir_cuts.proofs.scope.Scope.widths.Given as goal

abbrev pub invariant-loop-number : goal.invariant-loop-number
invariant-loop-number l = l.widths ++ widths_of l.self.objects.now (drop l.number-index l.variables) ≡ widths_of l.self.objects.now l.variables
