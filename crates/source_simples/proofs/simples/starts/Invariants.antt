use Rattle.std.proofs.Common.{drop, map}
use Rattle.std.specs.Prelude.{Result}
use Rattle.source_runs.specs.declared.halt.Halt.{Halt}
use Rattle.source_runs.specs.State.{Kept}
use Rattle.source_runs.specs.Runs.{all_of}
use Rattle.source_runs.specs.Follows.{Follows}
use Rattle.source_expressions.specs.Does.{start_at}
use Rattle.source_simples.proofs.simples.starts.Given as goal

abbrev pub invariant-loop-object : goal.invariant-loop-object
invariant-loop-object g l =
    (r : Result (Unit {0}) Halt) (after : Kept) → Follows (all_of (map (start_at l.here) (drop l.object-index l.list))) r l.state after → Follows (all_of (map (start_at l.here) l.list)) r l.fn.state after
