-- What statements and blocks do (C90, 6.6), and what functions do with them.
use Rattle.std.specs.Prelude.{ℕ, ℤ, pos, Bool, if◌then◌else◌, map, Option, Some, None}
use Rattle.std.specs.Option.{unwrap_or}
use Rattle.c_tree.specs.declared.simple.AssignMark.{AssignMark}
use Rattle.c_tree.specs.declared.simple.AssignMark.TheVariants as assign
use Rattle.c_typed.specs.declared.simple.TypedSimple.{TypedSimple}
use Rattle.c_typed.specs.declared.simple.TypedSimple.TheVariants.{Assign, Step, SetOverflow, Call}
use Rattle.c_typed.specs.declared.statement.Start.{Start}
use Rattle.c_typed.specs.declared.statement.TypedBlock.{TypedBlock}
use Rattle.c_typed.specs.declared.statement.TypedStmt.{TypedStmt}
use Rattle.c_typed.specs.declared.statement.TypedStmt.TheOpen as node
use Rattle.c_typed.specs.declared.statement.TypedStmt.TheFolds.{fold-TypedStmt, fold-TypedBlock}
use Rattle.source_runs.specs.declared.halt.Flow.{Flow}
use Rattle.source_runs.specs.declared.halt.Flow.TheVariants.{Normal, Break, Continue, Return}
use Rattle.source_runs.specs.declared.location.Access.TheVariants.{Element}
use Rattle.source_runs.specs.declared.location.Given.{Given}
use Rattle.source_runs.specs.declared.location.Location.{Location}
use Rattle.source_runs.specs.Shapes.{shape_of}
use Rattle.source_runs.specs.State.{number_at, written, with_overflow}
use Rattle.source_runs.specs.Runs.{Run, gives, ◌>>=◌, ◌>>◌, reading, changing, choosing, all_of}
use Rattle.source_runs.specs.Marks.{assigned}
use Rattle.source_runs.specs.Steps.{given_to, opened}
use Rattle.source_runs.specs.Loops.{in_sequence, turns_of, looping}
use Rattle.typed_meaning.specs.Expressions.{Setting, Called, site_at, argument_meaning, place_meaning, call_meaning, expression_meaning}

-- The target's index comes first and is checked; then the old value is read, then the right side is evaluated, and
-- then the value is written, converted to the width of the target.
unfoldable pub assignment_meaning : Setting → Run Location → AssignMark → ℕ → Run ℤ → Run (Unit {0})
assignment_meaning here target mark site value =
    target >>= (λ to. reading (number_at to) >>= (λ old. value >>= (λ right.
    assigned mark site old right >>= (λ new. changing (written (shape_of here.objects to.object).width to new)))))

-- `++` adds 1, and `--` subtracts 1
abbrev pub step_mark : Bool → AssignMark
step_mark up = if up then assign.Plus else assign.Minus

unfoldable pub start_meaning : Setting → ℕ → Option (Run Given) → Run (Unit {0})
start_meaning here object None = changing (opened here.objects object)
start_meaning here object (Some value) = value >>= (λ given. changing (given_to (shape_of here.objects object) given))

-- a missing condition is 1
abbrev pub condition_or_one : Option (Run ℤ) → Run ℤ
condition_or_one condition = unwrap_or condition (gives (pos 1))

-- a missing value is 0, which is not used
unfoldable pub return_meaning : Option (Run ℤ) → Run Flow
return_meaning None = gives (Return (pos 0))
return_meaning (Some value) = value >>= (λ x. gives (Return x))

abbrev pub option_of : {A B : Type 0} → (A → B) → Option A → Option B
option_of f None = None
option_of f (Some a) = Some (f a)

module _ (here : Setting) (called : Called) where
  unfoldable pub simple_meaning : TypedSimple → Run (Unit {0})
  simple_meaning (Assign at place mark mark_at site value) =
      assignment_meaning here (place_meaning here called place Element) mark (site_at site) (expression_meaning here called value)
  simple_meaning (Step at place up mark_at site) =
      assignment_meaning here (place_meaning here called place Element) (step_mark up) (site_at site) (gives (pos 1))
  simple_meaning (SetOverflow at value) = expression_meaning here called value >>= (λ x. changing (with_overflow x))
  simple_meaning (Call call) = call_meaning here called call >> gives tt

  abbrev pub starting : Start → Run (Unit {0})
  starting start = start_meaning here start.object (option_of (argument_meaning here called) start.value)

  unfoldable pub of_statement : node.TypedStmt-F (Run Flow) (Run Flow) → Run Flow
  of_statement (node.Empty at) = gives Normal
  of_statement (node.Block block) = block
  of_statement (node.Simple simple) = simple_meaning simple >> gives Normal
  of_statement (node.If at cond this other) = choosing (expression_meaning here called cond) this (unwrap_or other (gives Normal))
  of_statement (node.While at cond body) = looping here.turns (expression_meaning here called cond) (gives tt) body
  of_statement (node.Do at body cond) = turns_of here.turns (expression_meaning here called cond) (gives tt) body
  of_statement (node.For at first cond last body) =
      all_of (map simple_meaning first)
      >> looping here.turns (condition_or_one (option_of (expression_meaning here called) cond)) (all_of (map simple_meaning last)) body
  of_statement (node.Break at) = gives Break
  of_statement (node.Continue at) = gives Continue
  of_statement (node.Return at value) = return_meaning (option_of (expression_meaning here called) value)

  -- objects start, and then come the statements
  unfoldable pub of_block : node.TypedBlock-F (Run Flow) (Run Flow) → Run Flow
  of_block block = all_of (map starting block.objects) >> in_sequence block.stmts

  abbrev pub statement_meaning : TypedStmt → Run Flow
  statement_meaning = fold-TypedStmt (Run Flow) (Run Flow) of_statement of_block

  abbrev pub block_meaning : TypedBlock → Run Flow
  block_meaning = fold-TypedBlock (Run Flow) (Run Flow) of_statement of_block
