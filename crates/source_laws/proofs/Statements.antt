-- A statement at more turns goes on from the same one at fewer: an induction over the tree.
use Rattle.std.proofs.Common.{◌≡◌, ℕ, ◌≤◌, List, map, refl, subst}
use Rattle.std.specs.Prelude.{ℤ, Option, Some, None, pos}
use Rattle.operator_meaning.specs.declared.object.Object.{Object}
use Rattle.weight_table.specs.declared.table.Table.{Table}
use Rattle.c_tree.specs.declared.simple.AssignMark.{AssignMark}
use Rattle.c_typed.specs.declared.call.TypedArg.{TypedArg}
use Rattle.c_typed.specs.declared.expression.TypedExpr.{TypedExpr}
use Rattle.c_typed.specs.declared.simple.TypedSimple.{TypedSimple}
use Rattle.c_typed.specs.declared.simple.TypedSimple.TheVariants.{Assign, Step, SetOverflow, Call}
use Rattle.c_typed.specs.declared.statement.Start.{Start}
use Rattle.c_typed.specs.declared.statement.TypedBlock.{TypedBlock, roll-TypedBlock}
use Rattle.c_typed.specs.declared.statement.TypedStmt.{TypedStmt}
use Rattle.c_typed.specs.declared.statement.TypedStmt.TheOpen as node
use Rattle.c_typed.specs.declared.statement.TypedStmt.TheViews.{roll-TypedStmt}
use Rattle.c_typed.specs.declared.statement.TypedStmt.TheFolds.{map-TypedStmt, fold-roll-TypedStmt, ind-TypedBlock}
use Rattle.source_runs.specs.declared.halt.Flow.{Flow}
use Rattle.source_runs.specs.declared.halt.Flow.TheVariants.{Normal, Break, Continue}
use Rattle.source_runs.specs.declared.location.Access.TheVariants.{Element}
use Rattle.source_runs.specs.declared.location.Given.{Given}
use Rattle.source_runs.specs.declared.location.Location.{Location}
use Rattle.source_runs.specs.Shapes.{shape_of}
use Rattle.source_runs.specs.Runs.{Run}
use Rattle.typed_meaning.specs.Expressions.{Setting, Called, site_at, expression_meaning}
use Rattle.typed_meaning.specs.Statements.{assignment_meaning, step_mark, start_meaning, condition_or_one, return_meaning, option_of, simple_meaning, starting, of_statement, of_block, statement_meaning, block_meaning}
use Rattle.typed_meaning.proofs.Statements.{block-is}
use Rattle.source_laws.proofs.Extending.{Extends, extends-as, extends-gives, extends-reading, extends-keeping, extends-next, extends-and, extends-choosing, extends-all_of, extends-in_sequence, extends-turns, extends-looping}
use Rattle.source_laws.proofs.Steps.{extends-assigned, extends-given_to, extends-opened}
use Rattle.source_laws.proofs.Expressions.{extends-argument, extends-place, extends-call, extends-expression}

module _ (here : Setting) (called : Called) where
  roll_statement : (z : node.TypedStmt-F TypedStmt TypedBlock) → statement_meaning here called (roll-TypedStmt z)
      ≡ of_statement here called (map-TypedStmt TypedStmt TypedBlock (Run Flow) (Run Flow) (statement_meaning here called) (block_meaning here called) z)
  roll_statement = fold-roll-TypedStmt _ _ (of_statement here called) (of_block here called)

module _ (objects : List Object) (table : Table) (turns more : ℕ) (most : turns ≤ more) (called longer : Called)
    (each : (number : ℕ) (givens : List Given) → Extends (called number givens) (longer number givens)) where
  abbrev here : Setting
  here = record { objects = objects; table = table; turns = turns }

  abbrev there : Setting
  there = record { objects = objects; table = table; turns = more }

  -- ---- simple statements, and the starts of objects

  extends-assignment : (target farther : Run Location) (mark : AssignMark) (site : ℕ) (value wider : Run ℤ) → Extends target farther → Extends value wider
      → Extends (assignment_meaning here target mark site value) (assignment_meaning there farther mark site wider)
  unfolding assignment_meaning
  extends-assignment target farther mark site value wider one two =
      extends-next _ _ _ _ one (λ to. extends-next _ _ _ _ (extends-reading _) (λ old. extends-next _ _ _ _ two (λ right.
      extends-next _ _ _ _ (extends-assigned mark site old right) (λ new. extends-keeping _ (λ kept. refl)))))

  extends-simple : (simple : TypedSimple) → Extends (simple_meaning here called simple) (simple_meaning there longer simple)
  unfolding simple_meaning
  extends-simple (Assign at place mark mark_at site value) =
      extends-assignment _ _ mark (site_at site) _ _ (extends-place objects table turns more called longer each place Element) (extends-expression objects table turns more called longer each value)
  extends-simple (Step at place up mark_at site) =
      extends-assignment _ _ (step_mark up) (site_at site) _ _ (extends-place objects table turns more called longer each place Element) (extends-gives (pos 1))
  extends-simple (SetOverflow at value) =
      extends-next _ _ _ _ (extends-expression objects table turns more called longer each value) (λ x. extends-keeping _ (λ kept. refl))
  extends-simple (Call call) = extends-and _ _ _ _ (extends-call objects table turns more called longer each call) (extends-gives tt)

  started : (object : ℕ) (value : Option TypedArg) → Extends (starting here called (record { object = object; value = value })) (starting there longer (record { object = object; value = value }))
  unfolding start_meaning
  started object None = extends-opened objects object
  started object (Some value) = extends-next _ _ _ _ (extends-argument objects table turns more called longer each value) (λ given. extends-given_to (shape_of objects object) given)

  extends-start : (start : Start) → Extends (starting here called start) (starting there longer start)
  extends-start start = started start.object start.value

  -- ---- what may be missing

  extends-condition : (cond : Option TypedExpr) → Extends (condition_or_one (option_of (expression_meaning here called) cond)) (condition_or_one (option_of (expression_meaning there longer) cond))
  extends-condition None = extends-gives (pos 1)
  extends-condition (Some cond) = extends-expression objects table turns more called longer each cond

  extends-return : (value : Option TypedExpr) → Extends (return_meaning (option_of (expression_meaning here called) value)) (return_meaning (option_of (expression_meaning there longer) value))
  unfolding return_meaning
  extends-return None = extends-gives _
  extends-return (Some value) = extends-next _ _ _ _ (extends-expression objects table turns more called longer each value) (λ x. extends-gives _)

  -- ---- statements

  abbrev pub StatementExtends : TypedStmt → Type 0
  StatementExtends stmt = Extends (statement_meaning here called stmt) (statement_meaning there longer stmt)

  abbrev pub BlockExtends : TypedBlock → Type 0
  BlockExtends block = Extends (block_meaning here called block) (block_meaning there longer block)

  module _ (A B : Type 0) (a : A → TypedStmt) (b : B → TypedBlock) (pa : (x : A) → StatementExtends (a x)) (pb : (x : B) → BlockExtends (b x)) where
    statement_step : (y : node.TypedStmt-F A B) → StatementExtends (roll-TypedStmt (map-TypedStmt A B TypedStmt TypedBlock a b y))
    unfolding of_statement
    statement_step (node.Empty at) = extends-as _ _ _ _ (roll_statement here called _) (roll_statement there longer _) (extends-gives Normal)
    statement_step (node.Block block) = extends-as _ _ _ _ (roll_statement here called _) (roll_statement there longer _) (pb block)
    statement_step (node.Simple simple) = extends-as _ _ _ _ (roll_statement here called _) (roll_statement there longer _) (extends-and _ _ _ _ (extends-simple simple) (extends-gives Normal))
    statement_step (node.If at cond this None) =
        extends-as _ _ _ _ (roll_statement here called _) (roll_statement there longer _) (extends-choosing _ _ _ _ _ _ (extends-expression objects table turns more called longer each cond) (pa this) (extends-gives Normal))
    statement_step (node.If at cond this (Some other)) =
        extends-as _ _ _ _ (roll_statement here called _) (roll_statement there longer _) (extends-choosing _ _ _ _ _ _ (extends-expression objects table turns more called longer each cond) (pa this) (pa other))
    statement_step (node.While at cond body) =
        extends-as _ _ _ _ (roll_statement here called _) (roll_statement there longer _) (extends-looping _ _ _ _ _ _ (extends-expression objects table turns more called longer each cond) (extends-gives tt) (pa body) turns more most)
    statement_step (node.Do at body cond) =
        extends-as _ _ _ _ (roll_statement here called _) (roll_statement there longer _) (extends-turns _ _ _ _ _ _ (extends-expression objects table turns more called longer each cond) (extends-gives tt) (pa body) turns more most)
    statement_step (node.For at first cond last body) =
        extends-as _ _ _ _ (roll_statement here called _) (roll_statement there longer _) (extends-and _ _ _ _ (extends-all_of _ _ extends-simple first)
        (extends-looping _ _ _ _ _ _ (extends-condition cond) (extends-all_of _ _ extends-simple last) (pa body) turns more most))
    statement_step (node.Break at) = extends-as _ _ _ _ (roll_statement here called _) (roll_statement there longer _) (extends-gives Break)
    statement_step (node.Continue at) = extends-as _ _ _ _ (roll_statement here called _) (roll_statement there longer _) (extends-gives Continue)
    statement_step (node.Return at value) = extends-as _ _ _ _ (roll_statement here called _) (roll_statement there longer _) (extends-return value)

    block_step : (y : node.TypedBlock-F A B) → BlockExtends (record { at = y.at; objects = y.objects; stmts = map a y.stmts })
    block_step y =
        extends-as _ _ _ _ (block-is here called _) (block-is there longer _)
        (extends-and _ _ _ _ (extends-all_of _ _ extends-start y.objects) (extends-in_sequence (statement_meaning here called) (statement_meaning there longer) a pa y.stmts))

  pub extends-block : (x : TypedBlock) → BlockExtends x
  extends-block = ind-TypedBlock StatementExtends BlockExtends
      (λ x y is. subst (λ z. StatementExtends (roll-TypedStmt z)) is (statement_step _ _ (λ q. q.0) (λ q. q.0) (λ q. q.1) (λ q. q.1) y))
      (λ x y is. subst (λ z. BlockExtends (roll-TypedBlock z)) is (block_step _ _ (λ q. q.0) (λ q. q.0) (λ q. q.1) (λ q. q.1) y))
