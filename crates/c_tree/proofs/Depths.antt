-- What the definition of depth says of each node with nodes in it.
use Rattle.std.proofs.Common.{◌≡◌, suc, max, List, [], ◌∷◌, Option, Some, None, refl, ap}
use denote.Hole.Carrier.{hidden}
use Rattle.sat_base.specs.declared.name.At.{At}
use Rattle.sat_base.specs.declared.name.Named.{Named}
use Rattle.sat_base.specs.declared.width.Width.{Width}
use Rattle.c_tree.specs.declared.call.Arg.{Arg}
use Rattle.c_tree.specs.declared.call.Arg.TheBlock.{hidden-the_row-Arg-2}
use Rattle.c_tree.specs.declared.call.Arg.TheVariants.{Value}
use Rattle.c_tree.specs.declared.expression.BinaryMark.{BinaryMark}
use Rattle.c_tree.specs.declared.call.Call.{Call}
use Rattle.c_tree.specs.declared.expression.Expr.{Expr}
use Rattle.c_tree.specs.declared.expression.ExprKind.TheVariants as kind
use Rattle.c_tree.specs.declared.place.Place.{Place}
use Rattle.c_tree.specs.declared.place.Place.TheVariants.{Index, Index2}
use Rattle.c_tree.specs.declared.expression.UnaryMark.{UnaryMark}
use Rattle.c_tree.specs.declared.statement.Block.{Block}
use Rattle.c_tree.specs.declared.simple.Simple.{Simple}
use Rattle.c_tree.specs.declared.statement.Stmt.{Stmt}
use Rattle.c_tree.specs.declared.statement.Stmt.TheBlock.{hidden-the_row-Stmt-0}
use Rattle.c_tree.specs.declared.statement.Stmt.TheVariants as statement
use Rattle.c_tree.specs.Depth.{deepest, depth_if_any, depth_below, depth_of_place, depth_of_argument, depth_of_row, depth_of_expression, depth_of_call, depth_of_simple, depth_of_objects, depth_of_statement, depth_of_statements, depth_of_block}
use Rattle.c_tree.proofs.ExpressionBoxes.{Read-boxed, Unary-boxed, Binary-boxed, Cast-boxed, Choose-boxed, Index-boxed, Index2-boxed}
use Rattle.c_tree.proofs.StatementBoxes.{If-boxed, Else-boxed, While-boxed, Do-boxed, For-boxed}

-- ---- expressions and places

-- the arguments in a call are those of its list
pub depth_of_row-listed : (args : List Arg) → depth_of_row (hidden-the_row-Arg-2 args) ≡ deepest depth_of_argument args
unfolding hidden-the_row-Arg-2 hidden
depth_of_row-listed [] = refl
depth_of_row-listed (arg ∷ args) = ap (max (depth_of_argument arg)) (depth_of_row-listed args)

pub depth_below-Read : (place : Place) → depth_below (kind.Read place) ≡ depth_of_place place
depth_below-Read place = ap depth_below (Read-boxed place)

pub depth_below-Unary : (mark : UnaryMark) (mark_at : At) (part : Expr) → depth_below (kind.Unary mark mark_at part) ≡ depth_of_expression part
depth_below-Unary mark mark_at part = ap depth_below (Unary-boxed mark mark_at part)

pub depth_below-Binary : (mark : BinaryMark) (mark_at : At) (left right : Expr) → depth_below (kind.Binary mark mark_at left right) ≡ max (depth_of_expression left) (depth_of_expression right)
depth_below-Binary mark mark_at left right = ap depth_below (Binary-boxed mark mark_at left right)

pub depth_below-Cast : (width : Width) (part : Expr) → depth_below (kind.Cast width part) ≡ depth_of_expression part
depth_below-Cast width part = ap depth_below (Cast-boxed width part)

pub depth_below-Choose : (cond one other : Expr) → depth_below (kind.Choose cond one other) ≡ max (depth_of_expression cond) (max (depth_of_expression one) (depth_of_expression other))
depth_below-Choose cond one other = ap depth_below (Choose-boxed cond one other)

pub depth_below-Call : (call : Call) → depth_below (kind.Call call) ≡ depth_of_call call
depth_below-Call call = depth_of_row-listed call.args

pub depth_of_argument-Value : (e : Expr) → depth_of_argument (Value e) ≡ depth_of_expression e
depth_of_argument-Value e = refl

pub depth_of_place-Index : (name : Named) (mark_at : At) (index : Expr) → depth_of_place (Index name mark_at index) ≡ suc (depth_of_expression index)
depth_of_place-Index name mark_at index = ap depth_of_place (Index-boxed name mark_at index)

pub depth_of_place-Index2 : (name : Named) (first_at : At) (first : Expr) (second_at : At) (second : Expr)
    → depth_of_place (Index2 name first_at first second_at second) ≡ suc (max (depth_of_expression first) (depth_of_expression second))
depth_of_place-Index2 name first_at first second_at second = ap depth_of_place (Index2-boxed name first_at first second_at second)

-- ---- statements

-- the statements in a block are those of its list
pub depth_of_statements-listed : (stmts : List Stmt) → depth_of_statements (hidden-the_row-Stmt-0 stmts) ≡ deepest depth_of_statement stmts
unfolding hidden-the_row-Stmt-0 hidden
depth_of_statements-listed [] = refl
depth_of_statements-listed (stmt ∷ stmts) = ap (max (depth_of_statement stmt)) (depth_of_statements-listed stmts)

pub depth_of_statement-Block : (block : Block) → depth_of_statement (statement.Block block) ≡ suc (depth_of_block block)
depth_of_statement-Block block = ap (λ n. suc (max (deepest depth_of_objects block.objects) n)) (depth_of_statements-listed block.stmts)

pub depth_of_statement-If : (at : At) (cond : Expr) (branch : Stmt) (other : Option Stmt)
    → depth_of_statement (statement.If at cond branch other) ≡ suc (max (depth_of_expression cond) (max (depth_of_statement branch) (depth_if_any depth_of_statement other)))
depth_of_statement-If at cond branch None = ap depth_of_statement (If-boxed at cond branch)
depth_of_statement-If at cond branch (Some other) = ap depth_of_statement (Else-boxed at cond branch other)

pub depth_of_statement-While : (at : At) (cond : Expr) (body : Stmt) → depth_of_statement (statement.While at cond body) ≡ suc (max (depth_of_expression cond) (depth_of_statement body))
depth_of_statement-While at cond body = ap depth_of_statement (While-boxed at cond body)

pub depth_of_statement-Do : (at : At) (body : Stmt) (cond : Expr) → depth_of_statement (statement.Do at body cond) ≡ suc (max (depth_of_statement body) (depth_of_expression cond))
depth_of_statement-Do at body cond = ap depth_of_statement (Do-boxed at body cond)

pub depth_of_statement-For : (at : At) (first : List Simple) (cond : Option Expr) (last : List Simple) (body : Stmt)
    → depth_of_statement (statement.For at first cond last body)
    ≡ suc (max (deepest depth_of_simple first) (max (depth_if_any depth_of_expression cond) (max (deepest depth_of_simple last) (depth_of_statement body))))
depth_of_statement-For at first cond last body = ap depth_of_statement (For-boxed at first cond last body)

-- what the definition says of all of these
pub ruleset depths = (depth_below-Read, depth_below-Unary, depth_below-Binary, depth_below-Cast, depth_below-Choose, depth_below-Call, depth_of_argument-Value, depth_of_place-Index, depth_of_place-Index2, depth_of_statement-Block, depth_of_statement-If, depth_of_statement-While, depth_of_statement-Do, depth_of_statement-For)
