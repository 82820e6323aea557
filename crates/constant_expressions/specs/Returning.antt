-- Which statements surely return. In a pattern `stmt_in_box` is a box with a statement in it.
use Rattle.std.specs.Prelude.{Bool, true, false, not, ◌&&◌, ◌||◌, pos, List, Option, Some, None}
use Rattle.std.specs.List.{list_any}
use Rattle.std.specs.Ordering.{int_eq}
use Rattle.c_tree.specs.declared.expression.Expr.{Expr}
use Rattle.c_tree.specs.declared.expression.ExprKind.{ExprKind, Int}
use Rattle.c_tree.specs.declared.statement.Block.{Block}
use Rattle.c_tree.specs.declared.statement.Stmt.{Stmt, Block', If', While', For', Break, Return, Held-Stmt-If-3, None', Some', Row_of-Stmt, end_of-Stmt, more_of-Stmt, more_of-Stmt as stmt_in_box}

-- a number other than 0
abbrev pub is_nonzero : ExprKind → Bool
is_nonzero (Int value) = not (int_eq value (pos 0))
is_nonzero kind = false

abbrev pub is_endless : Expr → Bool
is_endless cond = is_nonzero cond.kind

-- a missing condition is 1
abbrev pub condition_is_endless : Option Expr → Bool
condition_is_endless None = true
condition_is_endless (Some cond) = is_endless cond

abbrev mutual
  -- a `break` in a loop's body leaves that loop, and no loop inside it
  pub has_own_break : Stmt → Bool
  has_own_break (Break at) = true
  has_own_break (Block' at objects _ stmts) = breaks_among stmts
  has_own_break (If' at cond _ (stmt_in_box branch _) other) = has_own_break branch || breaks_in_else other
  has_own_break stmt = false

  pub breaks_in_else : Held-Stmt-If-3 → Bool
  breaks_in_else None' = false
  breaks_in_else (Some' _ (stmt_in_box branch _)) = has_own_break branch

  pub breaks_among : {m : _} → Row_of-Stmt m → Bool
  breaks_among end_of-Stmt = false
  breaks_among (more_of-Stmt stmt more) = has_own_break stmt || breaks_among more

abbrev pub any_breaks : List Stmt → Bool
any_breaks stmts = list_any has_own_break stmts

abbrev mutual
  pub statement_returns : Stmt → Bool
  statement_returns (Return at value) = true
  statement_returns (Block' at objects _ stmts) = returns_among stmts
  statement_returns (If' at cond _ (stmt_in_box branch _) other) = statement_returns branch && else_returns other
  statement_returns (While' at cond _ (stmt_in_box body _)) = is_endless cond && not (has_own_break body)
  statement_returns (For' at first cond last _ (stmt_in_box body _)) = condition_is_endless cond && not (has_own_break body)
  statement_returns stmt = false

  pub else_returns : Held-Stmt-If-3 → Bool
  else_returns None' = false
  else_returns (Some' _ (stmt_in_box branch _)) = statement_returns branch

  pub returns_among : {m : _} → Row_of-Stmt m → Bool
  returns_among end_of-Stmt = false
  returns_among (more_of-Stmt stmt more) = statement_returns stmt || returns_among more

abbrev pub some_returns : List Stmt → Bool
some_returns stmts = list_any statement_returns stmts

-- one of the block's statements surely returns
abbrev pub returns_in : Block → Bool
returns_in block = some_returns block.stmts
