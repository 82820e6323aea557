use Rattle.std.proofs.Common.{[], drop, map}
use Rattle.std.specs.Prelude.{List, Result}
use Rattle.source_runs.specs.declared.halt.Halt.{Halt}
use Rattle.source_runs.specs.declared.location.Given.{Given}
use Rattle.source_runs.specs.State.{Kept}
use Rattle.source_runs.specs.Runs.{gathered}
use Rattle.source_runs.specs.Follows.{Follows}
use Rattle.source_expressions.specs.Does.{argument_at}
use Rattle.source_expressions.proofs.expressions.+expression.Given as goal

abbrev pub invariant-arguments-loop-arg : goal.invariant-arguments-loop-arg
invariant-arguments-loop-arg g l =
    (r : Result (List Given) Halt) (after : Kept)
    → Follows (gathered l.givens (map (argument_at l.here) (drop l.arg-index l.args))) r l.state after
    → Follows (gathered [] (map (argument_at l.here) l.args)) r l.fn.state after
