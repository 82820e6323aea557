-- Loops of a source, as the program has them at hand.
use Rattle.std.specs.Prelude.{ℤ, Option, map}
use Rattle.std.specs.Option.{option_copied}
use Rattle.c_typed.specs.declared.expression.TypedExpr.{TypedExpr}
use Rattle.c_typed.specs.declared.statement.TypedStmt.{TypedStmt}
use Rattle.source_runs.specs.declared.halt.Flow.{Flow}
use Rattle.source_runs.specs.Runs.{Run, all_of}
use Rattle.source_runs.specs.Loops.{turns_of, looping}
use Rattle.typed_meaning.specs.Statements.{condition_or_one, option_of}
use Rattle.source_expressions.specs.declared.here.Here.{Here}
use Rattle.source_expressions.specs.Does.{expression_at, simple_at, statement_at}
use Rattle.source_statements.specs.declared.statements.Turn.{Turn}

-- a missing condition is 1
abbrev pub condition_at : Here → Option TypedExpr → Run ℤ
condition_at here condition = condition_or_one (option_of (expression_at here) condition)

-- the condition of a loop, and what ends each turn of it
abbrev pub tested_at : Here → Turn → Run ℤ
tested_at here turn = condition_at here (option_copied turn.condition)

abbrev pub last_at : Here → Turn → Run (Unit {0})
last_at here turn = all_of (map (simple_at here) turn.last.now)

-- a loop that tests before its first turn
abbrev pub loop_at : Here → Turn → TypedStmt → Run Flow
loop_at here turn body = looping here.turns (tested_at here turn) (last_at here turn) (statement_at here body)

-- a loop whose first turn begins at once
abbrev pub turns_at : Here → Turn → TypedStmt → Run Flow
turns_at here turn body = turns_of here.turns (tested_at here turn) (last_at here turn) (statement_at here body)
