use Rattle.std.proofs.Common.{drop, map}
use Rattle.std.specs.Prelude.{Result}
use Rattle.source_runs.specs.declared.halt.Halt.{Halt}
use Rattle.source_runs.specs.State.{Kept}
use Rattle.source_runs.specs.Runs.{all_of}
use Rattle.source_runs.specs.Follows.{Follows}
use Rattle.source_expressions.specs.Does.{simple_at}
use Rattle.source_simples.proofs.simples.all_simples.Given as goal

abbrev pub invariant-loop-done : goal.invariant-loop-done
invariant-loop-done g l =
    (r : Result (Unit {0}) Halt) (after : Kept) → Follows (all_of (map (simple_at l.here) (drop l.done-index l.list))) r l.state after → Follows (all_of (map (simple_at l.here) l.list)) r l.fn.state after
