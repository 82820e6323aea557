use Rattle.std.proofs.Common.{◌≡◌, ◌++◌, drop}
use Rattle.ir_cuts.specs.Cuts.{tracked_in}
use Rattle.ir_cuts.proofs.scope.Scope.tracked.Given as goal

abbrev pub invariant-loop-number : goal.invariant-loop-number
invariant-loop-number l = l.tracked ++ tracked_in l.self.objects.now (drop l.number-index l.numbers) ≡ tracked_in l.self.objects.now l.numbers
