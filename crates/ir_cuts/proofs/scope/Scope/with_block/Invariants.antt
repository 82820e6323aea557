use Rattle.std.proofs.Common.{◌≡◌, ◌++◌, ◌-◌}
use Rattle.ir_cuts.specs.Cuts.{tracked_from}
use Rattle.ir_cuts.proofs.scope.Scope.with_block.Given as goal

abbrev pub invariant-loop : goal.invariant-loop
invariant-loop l =
    l.inner ++ tracked_from l.self.objects.now l.number (l.fn.objects - l.counter) ≡ l.variables ++ tracked_from l.self.objects.now l.fn.first l.fn.objects
