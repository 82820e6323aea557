use Rattle.std.proofs.Common.{◌≡◌, drop}
use Rattle.source_runs.specs.Steps.{given_to_all}
use Rattle.source_runs.proofs.state.RunState.give_all.Given as goal

abbrev pub invariant-loop-param : goal.invariant-loop-param
invariant-loop-param l = given_to_all l.objects (drop l.param-index l.params) l.left l.self ≡ given_to_all l.objects l.params l.fn.givens l.fn.self
