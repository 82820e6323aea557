-- What the loop over the statements of a block keeps, and that each statement is within a lower limit than the one around it.
use Rattle.std.proofs.Common.{◌≡◌, ◌+◌, ◌-◌, ◌*◌}
use Rattle.right_reading.specs.Lists.{many}
use Rattle.right_reading.specs.ReadDeclarations.{objects_at}
use Rattle.right_reading.specs.ReadStatements.{no_brace, statements_by, statement_with}
use Rattle.statement_parser.proofs.statements.+statements.Given as goal

-- with the turns that are left, reading comes where it comes from the start
abbrev pub invariant-statements-loop-turn : goal.invariant-statements-loop-turn
invariant-statements-loop-turn l =
    many no_brace (statement_with objects_at l.limit) (l._turn-end - l._turn) l.stmts l.reader ≡ statements_by (statement_with objects_at l.limit) l.fn.reader

abbrev pub decreases-block : goal.decreases-block
decreases-block l = 3 * l.limit + 2

abbrev pub decreases-statements : goal.decreases-statements
decreases-statements l = 3 * l.limit + 1

abbrev pub decreases-statement : goal.decreases-statement
decreases-statement l = 3 * l.limit

abbrev pub decreases-if_statement : goal.decreases-if_statement
decreases-if_statement l = 3 * l.limit + 2

abbrev pub decreases-while_statement : goal.decreases-while_statement
decreases-while_statement l = 3 * l.limit + 2

abbrev pub decreases-do_statement : goal.decreases-do_statement
decreases-do_statement l = 3 * l.limit + 2

abbrev pub decreases-for_statement : goal.decreases-for_statement
decreases-for_statement l = 3 * l.limit + 2
