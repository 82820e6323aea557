use Rattle.std.proofs.Common.{◌≡◌, take, map}
use Rattle.source_runs.specs.Shapes.{opening_of}
use Rattle.source_runs.proofs.state.RunState.new.Given as goal

abbrev pub invariant-loop-object : goal.invariant-loop-object
invariant-loop-object l = l.numbers.items ≡ map opening_of (take l.object-index l.objects)
