use Rattle.std.proofs.Common.{◌-◌, drop, map}
use Rattle.std.specs.Prelude.{Result}
use Rattle.source_runs.specs.declared.halt.Flow.{Flow}
use Rattle.source_runs.specs.declared.halt.Halt.{Halt}
use Rattle.source_runs.specs.State.{Kept}
use Rattle.source_runs.specs.Loops.{in_sequence, turns_of}
use Rattle.source_runs.specs.Follows.{Follows}
use Rattle.source_expressions.specs.Does.{statement_at, block_at}
use Rattle.source_statements.specs.Loops.{tested_at, last_at, turns_at}
use Rattle.source_statements.proofs.statements.+statement.Given as goal

-- what is left to do from here is left to do of the whole
abbrev pub invariant-block-loop-stmt : goal.invariant-block-loop-stmt
invariant-block-loop-stmt g l =
    (r : Result Flow Halt) (after : Kept)
    → Follows (in_sequence (map (statement_at l.here) (drop l.stmt-index l.stmts))) r l.state after
    → Follows (block_at l.here l.inner) r l.fn.state after

abbrev pub invariant-turns-loop-begun : goal.invariant-turns-loop-begun
invariant-turns-loop-begun g l =
    (r : Result Flow Halt) (after : Kept)
    → Follows (turns_of (l.here.turns - l._begun) (tested_at l.here l.turn) (last_at l.here l.turn) (statement_at l.here l.body)) r l.state after
    → Follows (turns_at l.here l.turn l.body) r l.fn.state after
