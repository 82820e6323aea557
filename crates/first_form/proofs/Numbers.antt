-- The numbers of a source of the first form are from 0 to 32767.
use Rattle.std.proofs.Common.{List, [], ◌∷◌, Some, None, All, subst, sym}
use Rattle.std.proofs.lemmas.List.Elements.{All-nil, All-cons}
use Rattle.c_tree.specs.declared.call.Arg.{Arg, Value', Address}
use Rattle.c_tree.specs.declared.expression.ExprKind.{ExprKind, Int as Number, Call', Row_of-Arg, end_of-Arg, more_of-Arg}
use Rattle.c_tree.specs.declared.program.Item.{Item}
use Rattle.c_tree.specs.declared.program.Item.TheVariants as items
use Rattle.c_tree.specs.declared.simple.Simple.TheVariants as simple
use Rattle.c_tree.specs.declared.statement.Stmt.{Stmt, Simple as SimpleStmt}
use Rattle.first_form.specs.declared.first.FirstExpr.{FirstExpr, Int, Add', Sub', more_of-FirstExpr as boxed}
use Rattle.first_form.specs.Form.{IsOperand, IsExpr, AreOperands, IsArgument, IsOnlyArgument, IsOut, AreStatements, HasBody, IsOnlyItem, HasOperands}
use Rattle.first_form.specs.Laws.{HasOperandsAlone}

mutual
  in_expression : (kind : ExprKind) (e : FirstExpr) → IsExpr kind e → HasOperands e
  in_expression (Number n) (Int m) h = subst IsOperand (sym h.0) h.1
  in_expression (Call' name _ args) (Add' tok at _ (boxed left _) _ (boxed right _)) h = in_operands args left right h.1
  in_expression (Call' name _ args) (Sub' tok at _ (boxed left _) _ (boxed right _)) h = in_operands args left right h.1
  in_expression kind e h = absurd h

  in_operands : {m : _} (args : Row_of-Arg m) (left right : FirstExpr) → AreOperands args left right → HasOperands left × HasOperands right
  in_operands (more_of-Arg one (more_of-Arg other end_of-Arg)) left right h = (in_argument one left h.0, in_argument other right h.1)
  in_operands args left right h = absurd h

  in_argument : (arg : Arg) (e : FirstExpr) → IsArgument arg e → HasOperands e
  in_argument (Value' at brackets kind) e h = in_expression kind e h
  in_argument (Address at place) e h = absurd h

in_only : (args : List Arg) (e : FirstExpr) → IsOnlyArgument args e → HasOperands e
in_only (arg ∷ []) e h = in_argument arg e h
in_only args e h = absurd h

in_out : (stmt : Stmt) (e : FirstExpr) → IsOut stmt e → HasOperands e
in_out (SimpleStmt (simple.Call call)) e h = in_only call.args e h.1
in_out stmt e h = absurd h

in_statements : (stmts : List Stmt) (es : List FirstExpr) → AreStatements stmts es → All HasOperands es
in_statements (stmt ∷ []) [] h = All-nil HasOperands
in_statements (stmt ∷ []) (e ∷ es) h = absurd h.1
in_statements (stmt ∷ next ∷ more) [] h = absurd h
in_statements (stmt ∷ next ∷ more) (e ∷ es) h = All-cons HasOperands e es (in_out stmt e h.0) (in_statements (next ∷ more) es h.1)
in_statements [] es h = absurd h

in_body : (body : _) (es : List FirstExpr) → HasBody body es → All HasOperands es
in_body (Some block) es h = in_statements block.stmts es h.statements
in_body None es h = absurd h

in_items : (list : List Item) (es : List FirstExpr) → IsOnlyItem list es → All HasOperands es
in_items (items.Function function ∷ []) es h = in_body function.body es h.body
in_items list es h = absurd h

pub operands : HasOperandsAlone
operands program first h = in_items program.items first.outs h
