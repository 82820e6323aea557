-- Statements with statements in them, as the definitions by cases match on them.
use Rattle.std.proofs.Common.{◌≡◌, List, Option, Some, None, refl}
use denote.Hole.Carrier.{hidden}
use Rattle.sat_base.specs.declared.name.At.{At}
use Rattle.c_tree.specs.declared.expression.Expr.{Expr}
use Rattle.c_tree.specs.declared.statement.Block.{Block}
use Rattle.c_tree.specs.declared.simple.Simple.{Simple}
use Rattle.c_tree.specs.declared.statement.Stmt.{Stmt, Block', If', While', Do', For', None', Some', more_of-Stmt as stmt_in_box, end_of-Stmt as end}
use Rattle.c_tree.specs.declared.statement.Stmt.TheBlock.{shape-the_row-Stmt-0, hidden-the_row-Stmt-0, shape-the_row-Stmt-1, hidden-the_row-Stmt-1}
use Rattle.c_tree.specs.declared.statement.Stmt.TheVariants as statement

pub Block-boxed : (block : Block) → statement.Block block ≡ Block' block.at block.objects (shape-the_row-Stmt-0 block.stmts) (hidden-the_row-Stmt-0 block.stmts)
Block-boxed block = refl

pub If-boxed : (at : At) (cond : Expr) (branch : Stmt) → statement.If at cond branch None ≡ If' at cond tt (stmt_in_box branch end) None'
unfolding shape-the_row-Stmt-1 hidden-the_row-Stmt-1 hidden
If-boxed at cond branch = refl

pub Else-boxed : (at : At) (cond : Expr) (branch other : Stmt) → statement.If at cond branch (Some other) ≡ If' at cond tt (stmt_in_box branch end) (Some' tt (stmt_in_box other end))
unfolding shape-the_row-Stmt-1 hidden-the_row-Stmt-1 hidden
Else-boxed at cond branch other = refl

pub While-boxed : (at : At) (cond : Expr) (body : Stmt) → statement.While at cond body ≡ While' at cond tt (stmt_in_box body end)
unfolding shape-the_row-Stmt-1 hidden-the_row-Stmt-1 hidden
While-boxed at cond body = refl

pub Do-boxed : (at : At) (body : Stmt) (cond : Expr) → statement.Do at body cond ≡ Do' at tt (stmt_in_box body end) cond
unfolding shape-the_row-Stmt-1 hidden-the_row-Stmt-1 hidden
Do-boxed at body cond = refl

pub For-boxed : (at : At) (first : List Simple) (cond : Option Expr) (last : List Simple) (body : Stmt) → statement.For at first cond last body ≡ For' at first cond last tt (stmt_in_box body end)
unfolding shape-the_row-Stmt-1 hidden-the_row-Stmt-1 hidden
For-boxed at first cond last body = refl
