-- What the definition of costs says of each part with parts in it.
use Rattle.std.proofs.Common.{◌≡◌, ℕ, ◌+◌, List, [], ◌∷◌, Option, Some, None, refl, ap}
use denote.Hole.Carrier.{hidden}
use Rattle.sat_base.specs.declared.name.At.{At}
use Rattle.sat_base.specs.declared.name.Named.{Named}
use Rattle.sat_base.specs.declared.width.Width.{Width}
use Rattle.c_tree.specs.declared.call.Arg.{Arg}
use Rattle.c_tree.specs.declared.call.Arg.TheBlock.{hidden-the_row-Arg-2}
use Rattle.c_tree.specs.declared.call.Call.{Call}
use Rattle.c_tree.specs.declared.expression.BinaryMark.{BinaryMark}
use Rattle.c_tree.specs.declared.expression.Expr.{Expr}
use Rattle.c_tree.specs.declared.expression.ExprKind.TheVariants as kind
use Rattle.c_tree.specs.declared.expression.UnaryMark.{UnaryMark}
use Rattle.c_tree.specs.declared.place.Place.{Place}
use Rattle.c_tree.specs.declared.place.Place.TheVariants.{Index, Index2}
use Rattle.c_tree.specs.declared.simple.Simple.{Simple}
use Rattle.c_tree.specs.declared.statement.Block.{Block}
use Rattle.c_tree.specs.declared.statement.Stmt.{Stmt}
use Rattle.c_tree.specs.declared.statement.Stmt.TheBlock.{hidden-the_row-Stmt-0}
use Rattle.c_tree.specs.declared.statement.Stmt.TheVariants as statement
use Rattle.c_tree.proofs.ExpressionBoxes.{Read-boxed, Unary-boxed, Binary-boxed, Cast-boxed, Choose-boxed, Index-boxed, Index2-boxed}
use Rattle.c_tree.proofs.StatementBoxes.{If-boxed, Else-boxed, While-boxed, Do-boxed, For-boxed}
use Rattle.ir_arena.specs.Costs.{operand_words, conversion_words, site_words, mark_words, control_words}
use Rattle.source_costs.specs.Costs.{total, cost_if_any, marked_words, called_words, indexed_words, cost_below, cost_of_place, cost_of_argument, cost_of_row, cost_of_expression, cost_of_call, cost_of_simple, cost_of_objects, cost_of_statement, cost_of_statements, cost_of_block}

-- ---- expressions and places

-- the arguments in a call are those of its list
row-listed : (args : List Arg) → cost_of_row (hidden-the_row-Arg-2 args) ≡ total cost_of_argument args
unfolding hidden-the_row-Arg-2 hidden
row-listed [] = refl
row-listed (arg ∷ args) = ap (λ (n : ℕ). cost_of_argument arg + n) (row-listed args)

pub below-Read : (place : Place) → cost_below (kind.Read place) ≡ operand_words + cost_of_place place
below-Read place = ap cost_below (Read-boxed place)

pub below-Unary : (mark : UnaryMark) (mark_at : At) (part : Expr) → cost_below (kind.Unary mark mark_at part) ≡ marked_words + cost_of_expression part
below-Unary mark mark_at part = ap cost_below (Unary-boxed mark mark_at part)

pub below-Binary : (mark : BinaryMark) (mark_at : At) (left right : Expr) → cost_below (kind.Binary mark mark_at left right) ≡ marked_words + cost_of_expression left + cost_of_expression right
below-Binary mark mark_at left right = ap cost_below (Binary-boxed mark mark_at left right)

pub below-Cast : (width : Width) (part : Expr) → cost_below (kind.Cast width part) ≡ conversion_words + cost_of_expression part
below-Cast width part = ap cost_below (Cast-boxed width part)

pub below-Choose : (cond one other : Expr) → cost_below (kind.Choose cond one other) ≡ mark_words + cost_of_expression cond + cost_of_expression one + cost_of_expression other
below-Choose cond one other = ap cost_below (Choose-boxed cond one other)

pub below-Call : (call : Call) → cost_below (kind.Call call) ≡ cost_of_call call
below-Call call = ap (λ (n : ℕ). called_words + n) (row-listed call.args)

pub place-Index : (name : Named) (mark_at : At) (index : Expr) → cost_of_place (Index name mark_at index) ≡ indexed_words + cost_of_expression index
place-Index name mark_at index = ap cost_of_place (Index-boxed name mark_at index)

pub place-Index2 : (name : Named) (first_at : At) (first : Expr) (second_at : At) (second : Expr)
    → cost_of_place (Index2 name first_at first second_at second) ≡ indexed_words + cost_of_expression first + site_words + cost_of_expression second
place-Index2 name first_at first second_at second = ap cost_of_place (Index2-boxed name first_at first second_at second)

-- ---- statements

-- the statements in a block are those of its list
statements-listed : (stmts : List Stmt) → cost_of_statements (hidden-the_row-Stmt-0 stmts) ≡ total cost_of_statement stmts
unfolding hidden-the_row-Stmt-0 hidden
statements-listed [] = refl
statements-listed (stmt ∷ stmts) = ap (λ (n : ℕ). cost_of_statement stmt + n) (statements-listed stmts)

pub statement-Block : (block : Block) → cost_of_statement (statement.Block block) ≡ cost_of_block block
statement-Block block = ap (λ (n : ℕ). total cost_of_objects block.objects + n) (statements-listed block.stmts)

pub statement-If : (at : At) (cond : Expr) (branch : Stmt) (other : Option Stmt)
    → cost_of_statement (statement.If at cond branch other) ≡ control_words + cost_of_expression cond + cost_of_statement branch + cost_if_any cost_of_statement other
statement-If at cond branch None = ap cost_of_statement (If-boxed at cond branch)
statement-If at cond branch (Some other) = ap cost_of_statement (Else-boxed at cond branch other)

pub statement-While : (at : At) (cond : Expr) (body : Stmt) → cost_of_statement (statement.While at cond body) ≡ control_words + cost_of_expression cond + cost_of_statement body
statement-While at cond body = ap cost_of_statement (While-boxed at cond body)

pub statement-Do : (at : At) (body : Stmt) (cond : Expr) → cost_of_statement (statement.Do at body cond) ≡ control_words + cost_of_statement body + cost_of_expression cond
statement-Do at body cond = ap cost_of_statement (Do-boxed at body cond)

pub statement-For : (at : At) (first : List Simple) (cond : Option Expr) (last : List Simple) (body : Stmt)
    → cost_of_statement (statement.For at first cond last body)
    ≡ control_words + total cost_of_simple first + cost_if_any cost_of_expression cond + total cost_of_simple last + cost_of_statement body
statement-For at first cond last body = ap cost_of_statement (For-boxed at first cond last body)
