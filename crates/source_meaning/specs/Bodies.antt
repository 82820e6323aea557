-- Bodies of functions, as the program has them at hand.
use Rattle.std.specs.Prelude.{Option}
use Rattle.c_typed.specs.declared.statement.TypedBlock.{TypedBlock}
use Rattle.source_runs.specs.declared.halt.Flow.{Flow}
use Rattle.source_runs.specs.Runs.{Run}
use Rattle.typed_meaning.specs.Observed.{body_meaning}
use Rattle.source_expressions.specs.declared.here.Here.{Here}
use Rattle.source_expressions.specs.Does.{setting, called}

abbrev pub body_at : Here → Option TypedBlock → Run Flow
body_at here body = body_meaning (setting here) (called here) body
