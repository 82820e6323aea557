-- Small parts of sources, and what the meaning says of them.
use Rattle.std.specs.Prelude.{◌≡◌, ℕ, ℤ, pos, [], ◌∷◌, false, Some, None}
use Rattle.sat_base.specs.declared.name.At.{At}
use Rattle.sat_base.specs.declared.width.Width.TheVariants.{W16}
use Rattle.operator_meaning.specs.declared.object.Object.{Object}
use Rattle.operator_meaning.specs.declared.object.Storage.TheVariants.{Automatic}
use Rattle.operator_meaning.specs.declared.operator.Op.TheVariants.{Sub}
use Rattle.c_tree.specs.declared.expression.BinaryMark.TheVariants as binary
use Rattle.c_tree.specs.declared.simple.AssignMark.TheVariants as assign
use Rattle.c_typed.specs.declared.call.Callee.TheVariants.{Operator, SampleIn}
use Rattle.c_typed.specs.declared.call.TypedArg.TheVariants as argument
use Rattle.c_typed.specs.declared.expression.TypedExpr.{TypedExpr}
use Rattle.c_typed.specs.declared.expression.TypedExprKind.{TypedExprKind}
use Rattle.c_typed.specs.declared.expression.TypedExprKind.TheVariants as kind
use Rattle.c_typed.specs.declared.place.TypedPlace.TheVariants as place
use Rattle.c_typed.specs.declared.simple.TypedSimple.{TypedSimple}
use Rattle.c_typed.specs.declared.simple.TypedSimple.TheVariants as simple
use Rattle.c_typed.specs.declared.statement.TypedBlock.{TypedBlock}
use Rattle.c_typed.specs.declared.statement.TypedStmt.TheVariants as statement
use Rattle.source_runs.specs.declared.halt.Flow.TheVariants.{Normal}
use Rattle.source_runs.specs.State.{SourceState}
use Rattle.source_runs.specs.Runs.{Gives, Stops, Goes, state_after}
use Rattle.typed_meaning.specs.Expressions.{Setting, Called, expression_meaning}
use Rattle.typed_meaning.specs.Statements.{simple_meaning, statement_meaning, block_meaning}

abbrev pub expr : At → TypedExprKind → TypedExpr
expr at kind = record { at = at; brackets = 0; kind = kind }

abbrev pub number : At → ℤ → TypedExpr
number at value = expr at (kind.Int value)

-- 2147483647 + 1, at the site 5
abbrev pub great_sum : At → TypedExpr
great_sum at = expr at (kind.Binary binary.Plus at (Some 5) (number at (pos 2147483647)) (number at (pos 1)))

-- `sample_in()`, at the site
abbrev pub next : At → ℕ → TypedExpr
next at site = expr at (kind.Call (record { at = at; callee = SampleIn; site = Some site; args = [] }))

-- `sub(sample_in(), sample_in())`
abbrev pub difference : At → TypedExpr
difference at =
    expr at (kind.Call (record { at = at; callee = Operator Sub; site = Some 2; args = argument.Value (next at 0) ∷ argument.Value (next at 1) ∷ [] }))

-- an automatic array of this length; a scalar has the length 0
abbrev pub automatic : ℕ → Object
automatic length =
    record { name = []; width = W16; rows = length; columns = 0; storage = Automatic; view = false; is_const = false; exposed = false; initial = None; function = None }

-- `{ Word16 v; v += 1; }`, where v is the object 0
abbrev pub counting_block : At → TypedBlock
counting_block at =
    record { at = at; objects = record { object = 0; value = None } ∷ []; stmts = statement.Simple (simple.Assign at (place.Plain at 0) assign.Plus at (Some 3) (number at (pos 1))) ∷ [] }

-- `a[3] = 2147483647 + 1`, where a is the object 0, and its index is at the site 4
abbrev pub index_first : At → TypedSimple
index_first at = simple.Assign at (place.Index at 0 at (Some 4) (number at (pos 3))) assign.Plain at None (great_sum at)

-- In each the setting, the calls and the state are any.
pub record AreExamples (at : At) (here : Setting) (called : Called) (s : SourceState) : Type 0 where
  -- `while (1) ;` goes on, here at 2 turns
  pub endless_loop : statement_meaning (record here { turns = 2 }) called (statement.While at (number at (pos 1)) (statement.Empty at)) s ≡ Goes s
  -- `while (1) break;` ends
  pub loop_with_break : statement_meaning (record here { turns = 2 }) called (statement.While at (number at (pos 1)) (statement.Break at)) s ≡ Gives Normal s
  -- `do ; while (0);` goes on at no turns, and evaluates nothing
  pub no_turn_begins : statement_meaning (record here { turns = 0 }) called (statement.Do at (statement.Empty at) (number at (pos 0))) s ≡ Goes s
  -- `while (0) ;` ends at no turns
  pub no_turn_is_needed : statement_meaning (record here { turns = 0 }) called (statement.While at (number at (pos 0)) (statement.Empty at)) s ≡ Gives Normal s
  -- a sum past 32 bits stops at its site, which is evaluated
  pub sum_stops : expression_meaning here called (great_sum at) (record s { sites = [] }) ≡ Stops 5 (record s { sites = 5 ∷ [] })
  -- `0 && 2147483647 + 1` is 0, and evaluates nothing more
  pub left_decides : expression_meaning here called (expr at (kind.Binary binary.Both at None (number at (pos 0)) (great_sum at))) s ≡ Gives (pos 0) s
  -- arguments are evaluated from left to right, and then the operator
  pub left_to_right : (state_after (expression_meaning here called (difference at) (record { kept = record s.kept { left = pos 5 ∷ pos 3 ∷ [] }; sites = [] }))).sites ≡ 0 ∷ 1 ∷ 2 ∷ []
  -- an object of a block starts anew each time: after 7 it is 0, and then 1
  pub object_starts_anew : (state_after (block_meaning (record here { objects = automatic 0 ∷ [] }) called (counting_block at) (record s { kept = record s.kept { numbers = (pos 7 ∷ []) ∷ [] } }))).kept.numbers ≡ (pos 1 ∷ []) ∷ []
  -- an index is checked before the right side is evaluated
  pub index_comes_first : simple_meaning (record here { objects = automatic 3 ∷ [] }) called (index_first at) (record s { sites = [] }) ≡ Stops 4 (record s { sites = 4 ∷ [] })
