-- Which bodies surely return (C90, 6.6.6.4), as the tree of a source has it.
use Rattle.std.specs.Prelude.{Bool, true, false, not, ◌&&◌, ◌||◌, pos, List, [], ◌∷◌, Option, Some, None}
use Rattle.std.specs.Ordering.{int_eq}
use Rattle.c_typed.specs.declared.expression.TypedExpr.{TypedExpr}
use Rattle.c_typed.specs.declared.expression.TypedExprKind.{TypedExprKind, Int}
use Rattle.c_typed.specs.declared.statement.TypedBlock.{TypedBlock}
use Rattle.c_typed.specs.declared.statement.TypedStmt.TheOpen as node
use Rattle.c_typed.specs.declared.statement.TypedStmt.TheFolds.{fold-TypedBlock}

-- whether it surely returns, and whether a `break` in it leaves the loop around it
pub record Ending : Type 0 where
  pub returns : Bool
  pub breaks : Bool

abbrev pub goes_on : Ending
goes_on = record { returns = false; breaks = false }

abbrev pub some_returns : List Ending → Bool
some_returns [] = false
some_returns (one ∷ rest) = one.returns || some_returns rest

abbrev pub some_breaks : List Ending → Bool
some_breaks [] = false
some_breaks (one ∷ rest) = one.breaks || some_breaks rest

abbrev pub is_nonzero : TypedExprKind → Bool
is_nonzero (Int value) = not (int_eq value (pos 0))
is_nonzero kind = false

-- a missing condition is 1
abbrev pub is_endless : Option TypedExpr → Bool
is_endless None = true
is_endless (Some cond) = is_nonzero cond.kind

abbrev pub branches : Ending → Option Ending → Ending
branches this None = record { returns = false; breaks = this.breaks }
branches this (Some other) = record { returns = this.returns && other.returns; breaks = this.breaks || other.breaks }

-- a loop whose condition always holds, and that no `break` leaves, is left by `return` alone
abbrev pub loop : Bool → Ending → Ending
loop endless body = record { returns = endless && not body.breaks; breaks = false }

unfoldable pub of_statement : node.TypedStmt-F Ending Ending → Ending
of_statement (node.Empty at) = goes_on
of_statement (node.Block block) = block
of_statement (node.Simple simple) = goes_on
of_statement (node.If at cond this other) = branches this other
of_statement (node.While at cond body) = loop (is_endless (Some cond)) body
of_statement (node.Do at body cond) = goes_on
of_statement (node.For at first cond last body) = loop (is_endless cond) body
of_statement (node.Break at) = record { returns = false; breaks = true }
of_statement (node.Continue at) = goes_on
of_statement (node.Return at value) = record { returns = true; breaks = false }

unfoldable pub of_block : node.TypedBlock-F Ending Ending → Ending
of_block block = record { returns = some_returns block.stmts; breaks = some_breaks block.stmts }

abbrev pub ending_of : TypedBlock → Ending
ending_of = fold-TypedBlock Ending Ending of_statement of_block
