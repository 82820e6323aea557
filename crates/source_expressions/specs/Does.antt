-- What the parts of a source do, as the program has them at hand.
use Rattle.std.specs.Prelude.{ℕ, ℤ, List, Result, IfOk, FitsSigned}
use Rattle.std.specs.Int.{w32}
use Rattle.std.specs.Borrow.{MutBor}
use Rattle.c_typed.specs.declared.call.Callee.{Callee}
use Rattle.c_typed.specs.declared.call.Callee.TheVariants.{Function}
use Rattle.c_typed.specs.declared.call.TypedArg.{TypedArg}
use Rattle.c_typed.specs.declared.call.TypedCall.{TypedCall}
use Rattle.c_typed.specs.declared.expression.TypedExpr.{TypedExpr}
use Rattle.c_typed.specs.declared.place.TypedPlace.{TypedPlace}
use Rattle.c_typed.specs.declared.simple.TypedSimple.{TypedSimple}
use Rattle.c_typed.specs.declared.statement.Start.{Start}
use Rattle.c_typed.specs.declared.statement.TypedBlock.{TypedBlock}
use Rattle.c_typed.specs.declared.statement.TypedStmt.{TypedStmt}
use Rattle.source_runs.specs.declared.halt.Flow.{Flow}
use Rattle.source_runs.specs.declared.halt.Halt.{Halt}
use Rattle.source_runs.specs.declared.location.Access.{Access}
use Rattle.source_runs.specs.declared.location.Given.{Given}
use Rattle.source_runs.specs.declared.location.Location.{Location}
use Rattle.source_runs.specs.State.{Kept}
use Rattle.source_runs.specs.Runs.{Run}
use Rattle.source_runs.specs.Follows.{Follows}
use Rattle.typed_meaning.specs.Expressions.{Setting, Called, argument_meaning, place_meaning, call_meaning, expression_meaning}
use Rattle.typed_meaning.specs.Statements.{simple_meaning, starting, statement_meaning, block_meaning}
use Rattle.typed_meaning.specs.Observed.{setting_of, called_at}
use Rattle.source_expressions.specs.declared.here.Here.{Here}

abbrev pub setting : Here → Setting
setting here = setting_of here.typed.now here.turns

abbrev pub called : Here → Called
called here = called_at here.depth here.typed.now here.turns

abbrev pub expression_at : Here → TypedExpr → Run ℤ
expression_at here e = expression_meaning (setting here) (called here) e

abbrev pub place_at : Here → TypedPlace → Access → Run Location
place_at here place access = place_meaning (setting here) (called here) place access

abbrev pub argument_at : Here → TypedArg → Run Given
argument_at here arg = argument_meaning (setting here) (called here) arg

abbrev pub call_at : Here → TypedCall → Run ℤ
call_at here call = call_meaning (setting here) (called here) call

abbrev pub simple_at : Here → TypedSimple → Run (Unit {0})
simple_at here simple = simple_meaning (setting here) (called here) simple

abbrev pub start_at : Here → Start → Run (Unit {0})
start_at here start = starting (setting here) (called here) start

abbrev pub statement_at : Here → TypedStmt → Run Flow
statement_at here stmt = statement_meaning (setting here) (called here) stmt

abbrev pub block_at : Here → TypedBlock → Run Flow
block_at here block = block_meaning (setting here) (called here) block

-- What calls functions of the source for the parts of one: it may always be called, and does what such a call does.
pub record Serves (pre : MutBor Kept → ℕ → List Given → Type 0) (post : MutBor Kept → ℕ → List Given → Result ℤ Halt → MutBor Kept → Type 0) (calls : Called) : Type 0 where
  pub callable : (state : MutBor Kept) (number : ℕ) (givens : List Given) → pre state number givens
  pub follows : (state : MutBor Kept) (number : ℕ) (givens : List Given) (result : Result ℤ Halt) (after : MutBor Kept) → post state number givens result after → Follows (calls number givens) result state.now after.now
  pub fits : (state : MutBor Kept) (number : ℕ) (givens : List Given) (result : Result ℤ Halt) (after : MutBor Kept) → post state number givens result after → IfOk result (FitsSigned w32)

-- it is no function of the source
abbrev pub IsPredefined : Callee → Type 0
IsPredefined (Function number) = ⊥
IsPredefined callee = Unit {0}
