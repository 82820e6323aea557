-- The words of code that a node may take, beside those of its parts. A source has at least one token of its own for
-- each node but the implied conversions, so that 128 words for each token leave room for all of them: a token that
-- is an operand may have a conversion around it, and may be an argument.
use Rattle.std.specs.Prelude.{ℕ, ◌+◌, ◌*◌, List, [], ◌∷◌, length}
use Rattle.operator_meaning.specs.declared.site.SiteKind.{SiteKind}
use Rattle.operator_meaning.specs.declared.site.SiteKind.TheVariants.{Call as OperatorCall}
use Rattle.ir_arena.specs.Tree.{IrTree, IrTarget, IrTrees, TreeFunction, IrWhole, Constant, Read, Address, Operate, Convert, Not, Invert, Binary, Choose, Call, ReadFlag, Left, Write, Step, WriteFlag, Out, AddCount, Start, Empty, Block, If, Loop, Leave, Return, Variable, Element, ThroughView, end, more}

-- ---- one by one

-- a number, a variable or the flag, in the register that is wanted
abbrev pub operand_words : ℕ
operand_words = 16

-- a conversion
abbrev pub conversion_words : ℕ
conversion_words = 8

-- what brings an argument to its parameter
abbrev pub argument_words : ℕ
argument_words = 8

-- the words of a template, of which there are at most 96
abbrev pub site_words : ℕ
site_words = 96

-- what brings the operands of an operator, of a write or of a sample to their registers, and its result from there
abbrev pub passing_words : ℕ
passing_words = 32

-- a relation, a bitwise mark, `!`, `~`, `&&`, `||` and `?:`
abbrev pub mark_words : ℕ
mark_words = 64

-- a call, without its arguments
abbrev pub call_words : ℕ
call_words = 96

-- an object that comes to its first value as its block is entered
abbrev pub object_words : ℕ
object_words = 64

-- `if`, a loop, `break`, `continue` and `return`
abbrev pub control_words : ℕ
control_words = 96

-- the entry of a function and its end
abbrev pub function_words : ℕ
function_words = 192

-- a parameter of a function
abbrev pub parameter_words : ℕ
parameter_words = 32

-- the beginning of the code
abbrev pub beginning_words : ℕ
beginning_words = 64

-- an operator has three tokens at least; the other sites have one, or two
abbrev pub words_of_site : SiteKind → ℕ
words_of_site (OperatorCall op) = site_words + passing_words
words_of_site kind = site_words

-- ---- their sum

abbrev mutual
  pub cost_of : IrTree → ℕ
  cost_of (Constant value) = operand_words
  cost_of (Read target) = operand_words + cost_of_target target
  cost_of (Address target) = operand_words + cost_of_target target
  cost_of (Operate site kind operands weight) = words_of_site kind + costs_of operands
  cost_of (Convert cast width part) = conversion_words + cost_of part
  cost_of (Not part) = mark_words + cost_of part
  cost_of (Invert part) = mark_words + cost_of part
  cost_of (Binary mark left right) = mark_words + cost_of left + cost_of right
  cost_of (Choose cond this other) = mark_words + cost_of cond + cost_of this + cost_of other
  cost_of (Call function args) = call_words + costs_of_arguments args
  cost_of (ReadFlag word) = operand_words
  cost_of Left = operand_words
  cost_of (Write target mark width site value) = site_words + passing_words + cost_of_target target + cost_of value
  cost_of (Step target up width site) = site_words + passing_words + cost_of_target target
  cost_of (WriteFlag value) = operand_words + cost_of value
  cost_of (Out value) = passing_words + cost_of value
  cost_of (AddCount weight) = operand_words
  cost_of (Start object value) = passing_words + cost_of value
  cost_of Empty = 0
  cost_of (Block first objects starts parts) = objects * object_words + costs_of starts + costs_of parts
  cost_of (If cond this other) = control_words + cost_of cond + cost_of this + costs_of other
  cost_of (Loop cut tests_first first cond last body) = control_words + costs_of first + costs_of cond + costs_of last + cost_of body
  cost_of (Leave again) = control_words
  cost_of (Return value) = control_words + costs_of value

  pub cost_of_target : IrTarget → ℕ
  cost_of_target (Variable object) = 0
  cost_of_target (Element object index) = operand_words + costs_of index
  cost_of_target (ThroughView view index) = operand_words + costs_of index

  pub costs_of : IrTrees → ℕ
  costs_of end = 0
  costs_of (more first rest) = cost_of first + costs_of rest

  pub costs_of_arguments : IrTrees → ℕ
  costs_of_arguments end = 0
  costs_of_arguments (more first rest) = argument_words + cost_of first + costs_of_arguments rest

abbrev pub cost_of_function : TreeFunction → ℕ
cost_of_function function = function_words + length function.params * parameter_words + cost_of function.body

abbrev pub cost_of_functions : List TreeFunction → ℕ
cost_of_functions [] = 0
cost_of_functions (function ∷ functions) = cost_of_function function + cost_of_functions functions

-- the words of the code of a whole tree
abbrev pub cost_of_whole : IrWhole → ℕ
cost_of_whole tree = beginning_words + cost_of_functions tree.functions
