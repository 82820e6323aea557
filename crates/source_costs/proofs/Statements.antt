-- The tree of each statement and block costs no more than that part of the source: one lemma for each constructor, and
-- an induction over the source.
use Rattle.std.proofs.Common.{◌≡◌, ℕ, ◌+◌, ◌≤◌, List, [], ◌∷◌, map, refl, sym, subst, arith}
use Rattle.std.specs.Prelude.{false, Option, Some, None}
use Rattle.sat_base.specs.declared.name.At.{At}
use Rattle.sat_base.specs.declared.width.Width.{Width}
use Rattle.sat_base.specs.declared.width.Width.TheVariants.{W32}
use Rattle.c_tree.specs.declared.expression.Expr.{Expr}
use Rattle.c_tree.specs.declared.simple.AssignMark.{AssignMark}
use Rattle.c_tree.specs.declared.simple.AssignMark.TheVariants as mark
use Rattle.c_tree.specs.declared.simple.Simple.{Simple}
use Rattle.c_tree.specs.declared.simple.Simple.TheVariants as simple
use Rattle.c_tree.specs.declared.statement.Block.{Block, ind-Block, roll-Block, map-Block}
use Rattle.c_tree.specs.declared.statement.Stmt.{Stmt, ind-Stmt, roll-Stmt, map-Stmt}
use Rattle.c_tree.specs.declared.statement.Stmt.TheOpen as node
use Rattle.c_tree.specs.declared.statement.Stmt.TheVariants as stmt
use Rattle.c_typed.specs.declared.expression.TypedExpr.{TypedExpr}
use Rattle.source_runs.specs.declared.location.Access.TheVariants.{Element}
use Rattle.ir_arena.specs.Costs.{conversion_words, cost_of, costs_of}
use Rattle.ir_arena.specs.Tree.{trees_from}
use Rattle.source_trees.specs.Expressions.{TreeSetting, expression_tree}
use Rattle.source_trees.specs.Statements.{trees_along, simple_tree, conditions, statement_tree, block_tree}
use Rattle.source_trees.proofs.Expressions as parts
use Rattle.source_trees.proofs.Statements as built
use Rattle.source_costs.specs.Costs.{total, cost_if_any, cost_of_expression, cost_of_simple, cost_of_statement, cost_of_block}
use Rattle.source_costs.proofs.Equations as source
use Rattle.tied_names.specs.Ties.{Here, object_of}
use Rattle.tied_expressions.specs.Expressions.{tied_expression}
use Rattle.tied_expressions.specs.Sites.{with_conversion}
use Rattle.tied_statements.specs.declared.statements.Inside.{Inside}
use Rattle.tied_statements.specs.Declarations.{with_objects, starts_in_lists}
use Rattle.tied_statements.specs.Statements.{name_in, assigned, returned, tied_simple, tied_simples, tied_if_any, tied_statement, tied_block, tied_statements}
use Rattle.tied_statements.proofs.Statement_equations as tied
use Rattle.source_costs.proofs.Expressions.{place_costs, call_costs, expression_costs}
use Rattle.source_costs.proofs.Starts.{starts_cost, lines_cost}

module _ (trees : TreeSetting) where
  -- ---- values that are converted

  converted_cost : (width : Width) (e : TypedExpr) → cost_of (expression_tree trees (with_conversion width e)) ≡ conversion_words + cost_of (expression_tree trees e)
  converted_cost width e = rw (parts.expression-is trees (with_conversion width e), parts.kind-Convert) refl

  assigned_costs : (with : AssignMark) (width : Width) (e : TypedExpr) → cost_of (expression_tree trees (assigned with width e)) ≤ conversion_words + cost_of (expression_tree trees e)
  assigned_costs mark.Plain width e = omega (arith, converted_cost width e)
  assigned_costs mark.Plus width e = omega arith
  assigned_costs mark.Minus width e = omega arith
  assigned_costs mark.Times width e = omega arith
  assigned_costs mark.And width e = omega arith
  assigned_costs mark.Or width e = omega arith
  assigned_costs mark.Xor width e = omega arith

  condition_costs : (here : Here) (cond : Option Expr) → costs_of (conditions trees (tied_if_any here cond).value) ≤ cost_if_any cost_of_expression cond
  condition_costs here None = omega arith
  condition_costs here (Some e) = omega (arith, (expression_costs trees e).number here)

  returned_costs : (gives : Option Width) (here : Here) (value : Option Expr) → costs_of (conditions trees (returned gives (tied_if_any here value).value)) ≤ cost_if_any cost_of_expression value
  returned_costs None here None = omega arith
  returned_costs None here (Some e) = omega (arith, (expression_costs trees e).number here)
  returned_costs (Some width) here None = omega arith
  returned_costs (Some width) here (Some e) = omega (arith, converted_cost width (tied_expression e here).value, (expression_costs trees e).number here)

  -- ---- assignments, steps and calls

  simple_costs : (here : Here) (s : Simple) → cost_of (simple_tree trees (tied_simple here s).value) ≤ cost_of_simple s
  simple_costs here (simple.Assign at target with mark_at value) =
      omega (arith, place_costs trees target here false Element, assigned_costs with (object_of here (name_in target)).width (tied_expression value here).value, (expression_costs trees value).number here)
  simple_costs here (simple.Step at target up mark_at) = omega (arith, place_costs trees target here false Element)
  simple_costs here (simple.SetOverflow at value) = omega (arith, converted_cost W32 (tied_expression value here).value, (expression_costs trees value).number here)
  simple_costs here (simple.Call call) = call_costs trees call here

  simples_cost : (here : Here) (xs : List Simple) → costs_of (trees_from (map (simple_tree trees) (tied_simples here xs).value)) ≤ total cost_of_simple xs
  simples_cost here [] = omega arith
  simples_cost here (x ∷ xs) = omega (arith, simple_costs here x, simples_cost here xs)

  -- ---- statements

  abbrev StatementCosts : Stmt → Type 0
  StatementCosts s = (here : Here) (inside : Inside) (cut : ℕ) → cost_of (statement_tree trees (tied_statement s here inside).value cut).tree ≤ cost_of_statement s

  abbrev BlockCosts : Block → Type 0
  BlockCosts b = (here : Here) (inside : Inside) (cut : ℕ) → cost_of (block_tree trees (tied_block b here inside).value cut).tree ≤ cost_of_block b

  abbrev SS : Type 0
  SS = (s : Stmt) × StatementCosts s

  abbrev SB : Type 0
  SB = (b : Block) × BlockCosts b

  on_Simple : (s : Simple) → StatementCosts (stmt.Simple s)
  on_Simple s here inside cut = rw (tied.tied-Simple, built.statement-Simple) (simple_costs here s)

  on_Block : (block : Block) → BlockCosts block → StatementCosts (stmt.Block block)
  on_Block block costs here inside cut = rw (tied.tied-Block, built.statement-Block, source.statement-Block) (costs here inside cut)

  on_Then : (at : At) (cond : Expr) (one : Stmt) → StatementCosts one → StatementCosts (stmt.If at cond one None)
  on_Then at cond one first here inside cut =
      rw (tied.tied-Then, built.statement-If, source.statement-If) (omega (arith, (expression_costs trees cond).number here, first here inside cut))

  on_Else : (at : At) (cond : Expr) (one other : Stmt) → StatementCosts one → StatementCosts other → StatementCosts (stmt.If at cond one (Some other))
  on_Else at cond one other first second here inside cut =
      let then = tied_statement one here inside in
      rw (tied.tied-Else, built.statement-Else, source.statement-If)
      (omega (arith, (expression_costs trees cond).number here, first here inside cut, second (with_objects here then.objects) inside (statement_tree trees then.value cut).next))

  on_While : (at : At) (cond : Expr) (body : Stmt) → StatementCosts body → StatementCosts (stmt.While at cond body)
  on_While at cond body inner here inside cut =
      rw (tied.tied-While, built.statement-While, source.statement-While) (omega (arith, (expression_costs trees cond).number here, inner here inside (cut + 1)))

  on_Do : (at : At) (body : Stmt) (cond : Expr) → StatementCosts body → StatementCosts (stmt.Do at body cond)
  on_Do at body cond inner here inside cut =
      rw (tied.tied-Do, built.statement-Do, source.statement-Do)
      (omega (arith, (expression_costs trees cond).number (with_objects here (tied_statement body here inside).objects), inner here inside (cut + 1)))

  on_For : (at : At) (first : List Simple) (cond : Option Expr) (last : List Simple) (body : Stmt) → StatementCosts body → StatementCosts (stmt.For at first cond last body)
  on_For at first cond last body inner here inside cut =
      rw (tied.tied-For, built.statement-For, source.statement-For)
      (omega (arith, simples_cost here first, condition_costs here cond, simples_cost here last, inner here inside (cut + 1)))

  on_statement : (y : node.Stmt-F SS SB) → StatementCosts (roll-Stmt (map-Stmt SS SB Stmt Block (λ e. e.0) (λ e. e.0) y))
  on_statement (node.Empty at) = subst StatementCosts (sym (stmt.rolls-Empty at)) (λ here inside cut. rw (tied.tied-Empty, built.statement-Empty) (omega arith))
  on_statement (node.Block block) = subst StatementCosts (sym (stmt.rolls-Block block.0)) (on_Block block.0 block.1)
  on_statement (node.Simple s) = subst StatementCosts (sym (stmt.rolls-Simple s)) (on_Simple s)
  on_statement (node.If at cond one None) = subst StatementCosts (sym (stmt.rolls-If at cond one.0 None)) (on_Then at cond one.0 one.1)
  on_statement (node.If at cond one (Some other)) = subst StatementCosts (sym (stmt.rolls-If at cond one.0 (Some other.0))) (on_Else at cond one.0 other.0 one.1 other.1)
  on_statement (node.While at cond body) = subst StatementCosts (sym (stmt.rolls-While at cond body.0)) (on_While at cond body.0 body.1)
  on_statement (node.Do at body cond) = subst StatementCosts (sym (stmt.rolls-Do at body.0 cond)) (on_Do at body.0 cond body.1)
  on_statement (node.For at first cond last body) = subst StatementCosts (sym (stmt.rolls-For at first cond last body.0)) (on_For at first cond last body.0 body.1)
  on_statement (node.Break at) = subst StatementCosts (sym (stmt.rolls-Break at)) (λ here inside cut. rw (tied.tied-Break, built.statement-Break) (omega arith))
  on_statement (node.Continue at) = subst StatementCosts (sym (stmt.rolls-Continue at)) (λ here inside cut. rw (tied.tied-Continue, built.statement-Continue) (omega arith))
  on_statement (node.Return at value) =
      subst StatementCosts (sym (stmt.rolls-Return at value)) (λ here inside cut. rw (tied.tied-Return, built.statement-Return) (omega (arith, returned_costs inside.gives here value)))

  -- ---- blocks

  on_statements : (ys : List SS) (here : Here) (inside : Inside) (cut : ℕ)
      → costs_of (trees_from (trees_along (map (statement_tree trees) (tied_statements (map (λ (e : SS). e.0) ys) here inside).value) cut)) ≤ total cost_of_statement (map (λ (e : SS). e.0) ys)
  on_statements [] here inside cut = omega arith
  on_statements (y ∷ ys) here inside cut =
      let one = tied_statement y.0 here inside in
      omega (arith, y.1 here inside cut, on_statements ys (with_objects here one.objects) inside (statement_tree trees one.value cut).next)

  on_block : (y : node.Block-F SS SB) → BlockCosts (roll-Block (map-Block SS SB Stmt Block (λ e. e.0) (λ e. e.0) y))
  on_block y here inside cut =
      let starts = starts_in_lists here inside.function y.objects in
      rw (tied.block-parts, built.block-is)
      (omega (arith, starts_cost trees starts.value, lines_cost trees here inside.function y.objects, on_statements y.stmts starts.after inside cut))

  pub statement_costs : (s : Stmt) → StatementCosts s
  statement_costs =
      ind-Stmt StatementCosts BlockCosts
      (λ x y is. subst (λ z. StatementCosts (roll-Stmt z)) is (on_statement y))
      (λ x y is. subst (λ z. BlockCosts (roll-Block z)) is (on_block y))

  pub block_costs : (b : Block) → BlockCosts b
  block_costs =
      ind-Block StatementCosts BlockCosts
      (λ x y is. subst (λ z. StatementCosts (roll-Stmt z)) is (on_statement y))
      (λ x y is. subst (λ z. BlockCosts (roll-Block z)) is (on_block y))
