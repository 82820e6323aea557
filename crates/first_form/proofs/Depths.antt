-- How deep the tree is of which this is the first form.
use Rattle.std.proofs.Common.{ℕ, ◌+◌, max, ◌≤◌, List, [], ◌∷◌, Some, None, All, arith}
use Rattle.std.proofs.lemmas.List.Elements.{All-nil, All-cons}
use Rattle.c_tree.specs.declared.call.Arg.{Arg, Value', Address}
use Rattle.c_tree.specs.declared.expression.ExprKind.{ExprKind, Int as Number, Call', Row_of-Arg, end_of-Arg, more_of-Arg}
use Rattle.c_tree.specs.declared.program.Item.{Item}
use Rattle.c_tree.specs.declared.program.Item.TheVariants as items
use Rattle.c_tree.specs.declared.simple.Simple.TheVariants as simple
use Rattle.c_tree.specs.declared.statement.Stmt.{Stmt, Simple as SimpleStmt}
use Rattle.c_tree.specs.Depth.{deepest, depth_if_any, depth_below, depth_of_argument, depth_of_row, depth_of_statement, depth_of_block, depth_of_item, depth_of}
use Rattle.first_form.specs.declared.first.FirstExpr.{FirstExpr, Int, Add', Sub', more_of-FirstExpr as boxed}
use Rattle.first_form.specs.Form.{IsExpr, AreOperands, IsArgument, IsOnlyArgument, IsOut, AreStatements, HasBody, IsOnlyItem, nesting_of}
use Rattle.first_form.specs.Laws.{IsShallow}

mutual
  expression_shallow : (kind : ExprKind) (e : FirstExpr) → IsExpr kind e → nesting_of e ≤ depth_below kind
  expression_shallow (Number n) (Int m) h = omega arith
  expression_shallow (Call' name _ args) (Add' tok at _ (boxed left _) _ (boxed right _)) h = operands_shallow args left right h.1
  expression_shallow (Call' name _ args) (Sub' tok at _ (boxed left _) _ (boxed right _)) h = operands_shallow args left right h.1
  expression_shallow kind e h = absurd h

  operands_shallow : {m : _} (args : Row_of-Arg m) (left right : FirstExpr) → AreOperands args left right → max (nesting_of left) (nesting_of right) + 1 ≤ depth_of_row args
  operands_shallow (more_of-Arg one (more_of-Arg other end_of-Arg)) left right h =
      omega (arith, argument_shallow one left h.0, argument_shallow other right h.1)
  operands_shallow args left right h = absurd h

  argument_shallow : (arg : Arg) (e : FirstExpr) → IsArgument arg e → nesting_of e + 1 ≤ depth_of_argument arg
  argument_shallow (Value' at brackets kind) e h = omega (arith, expression_shallow kind e h)
  argument_shallow (Address at place) e h = absurd h

only_shallow : (args : List Arg) (e : FirstExpr) → IsOnlyArgument args e → nesting_of e + 1 ≤ deepest depth_of_argument args
only_shallow (arg ∷ []) e h = omega (arith, argument_shallow arg e h)
only_shallow args e h = absurd h

out_shallow : (stmt : Stmt) (e : FirstExpr) → IsOut stmt e → nesting_of e + 2 ≤ depth_of_statement stmt
out_shallow (SimpleStmt (simple.Call call)) e h = omega (arith, only_shallow call.args e h.1)
out_shallow stmt e h = absurd h

-- within a bound on the depth of the statements
statements_shallow : (bound : ℕ) (stmts : List Stmt) (es : List FirstExpr) → AreStatements stmts es → deepest depth_of_statement stmts ≤ bound → All (λ e. nesting_of e + 2 ≤ bound) es
statements_shallow bound (stmt ∷ []) [] h low = All-nil (λ e. nesting_of e + 2 ≤ bound)
statements_shallow bound (stmt ∷ []) (e ∷ es) h low = absurd h.1
statements_shallow bound (stmt ∷ next ∷ more) [] h low = absurd h
statements_shallow bound (stmt ∷ next ∷ more) (e ∷ es) h low =
    All-cons (λ e. nesting_of e + 2 ≤ bound) e es (omega (arith, low, out_shallow stmt e h.0)) (statements_shallow bound (next ∷ more) es h.1 (omega (arith, low)))
statements_shallow bound [] es h low = absurd h

body_shallow : (bound : ℕ) (body : _) (es : List FirstExpr) → HasBody body es → depth_if_any depth_of_block body ≤ bound → All (λ e. nesting_of e + 2 ≤ bound) es
body_shallow bound (Some block) es h low = statements_shallow bound block.stmts es h.statements (omega (arith, low))
body_shallow bound None es h low = absurd h

items_shallow : (bound : ℕ) (items : List Item) (es : List FirstExpr) → IsOnlyItem items es → deepest depth_of_item items ≤ bound → All (λ e. nesting_of e + 2 ≤ bound) es
items_shallow bound (items.Function function ∷ []) es h low = body_shallow bound function.body es h.body (omega (arith, low))
items_shallow bound list es h low = absurd h

pub shallow : IsShallow
shallow program first h = items_shallow (depth_of program) program.items first.outs h (omega arith)
