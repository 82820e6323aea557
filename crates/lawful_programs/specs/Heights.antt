-- How many places of the stack of values a statement takes at once: the most of its expressions.
use Rattle.std.specs.Prelude.{ℕ, max}
use Rattle.ir_arena.specs.Tree.{IrTree, IrTrees, Empty, Block, If, Loop, Leave, Return, end, more}
use Rattle.expression_code.specs.Straight.{height_of}
use Rattle.simple_code.specs.Code.{height_of_simple}
use Rattle.condition_code.specs.Laws.{height_of_condition}
use Rattle.statement_code.specs.Blocks.{value_of}

-- of the values with which objects start
abbrev pub height_of_starts : IrTrees → ℕ
height_of_starts end = 0
height_of_starts (more start rest) = max (height_of (value_of start)) (height_of_starts rest)

abbrev pub height_of_simples : IrTrees → ℕ
height_of_simples end = 0
height_of_simples (more first rest) = max (height_of_simple first) (height_of_simples rest)

-- a loop has one test, or none
abbrev pub height_of_tests : IrTrees → ℕ
height_of_tests end = 0
height_of_tests (more cond rest) = height_of_condition cond

abbrev pub height_of_returned : IrTrees → ℕ
height_of_returned end = 0
height_of_returned (more value rest) = height_of value

abbrev mutual
  pub height_of_statement : IrTree → ℕ
  height_of_statement Empty = 0
  height_of_statement (Block first count starts parts) = max (height_of_starts starts) (height_of_statements parts)
  height_of_statement (If cond this other) = max (height_of_condition cond) (max (height_of_statement this) (height_of_statements other))
  height_of_statement (Loop cut tests_first first cond last body) =
      max (height_of_simples first) (max (height_of_tests cond) (max (height_of_simples last) (height_of_statement body)))
  height_of_statement (Leave again) = 0
  height_of_statement (Return value) = height_of_returned value
  height_of_statement simple = height_of_simple simple

  pub height_of_statements : IrTrees → ℕ
  height_of_statements end = 0
  height_of_statements (more first rest) = max (height_of_statement first) (height_of_statements rest)
