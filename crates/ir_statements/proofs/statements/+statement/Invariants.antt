use Rattle.std.proofs.Common.{◌≡◌, ◌++◌, map, drop}
use Rattle.ir_arena.specs.Placed.{tree_of}
use Rattle.source_trees.specs.Statements.{statement_tree, trees_along, next_along}
use Rattle.ir_expressions.specs.Building.{setting}
use Rattle.ir_statements.proofs.statements.+statement.Given as goal

abbrev pub invariant-statements-loop-stmt : goal.invariant-statements-loop-stmt
invariant-statements-loop-stmt l =
    (map tree_of l.nodes ++ trees_along (map (statement_tree (setting l.build)) (drop l.stmt-index l.stmts)) l.later ≡ trees_along (map (statement_tree (setting l.build)) l.stmts) l.fn.next)
    × (next_along (map (statement_tree (setting l.build)) (drop l.stmt-index l.stmts)) l.later ≡ next_along (map (statement_tree (setting l.build)) l.stmts) l.fn.next)
