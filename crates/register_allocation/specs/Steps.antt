-- What a function does with its variables, step by step, in the order of evaluation, as the steps can follow one another
-- inside it. Reads and writes of what is no tracked variable are among them: it has no register, so they do not matter.
use Rattle.std.specs.Prelude.{ℕ, zero, suc, ◌+◌, ◌==◌, ◌||◌, Bool, false, List, [], ◌∷◌, Option, Some, None, slice_get, if◌then◌else◌}
use Rattle.c_tree.specs.declared.expression.BinaryMark.{BinaryMark}
use Rattle.c_tree.specs.declared.expression.BinaryMark.TheVariants.{Both, Either}
use Rattle.c_tree.specs.declared.simple.AssignMark.{AssignMark}
use Rattle.c_tree.specs.declared.simple.AssignMark.TheVariants as assign
use Rattle.ir_arena.specs.Tree.{IrTree, IrTarget, IrTrees, TreeFunction, IrWhole, Constant, Read, Address, Operate, Convert, Not, Invert, Binary, Choose, Call, ReadFlag, Left, Write, Step, WriteFlag, Out, AddCount, Start, Empty, Block, If, Loop, Leave, Return, Variable, Element, ThroughView, end, more}
use Rattle.tree_walks.specs.Ways.{Broken, Continued, Returned, leaving, nothing, Takes}
use Rattle.tree_walks.specs.Points.{Point, Ways, without_points, marked_before, marked_after, in_turn, one_of, all_in_turn}
use Rattle.tree_walks.specs.Loops.{loop_ways}

-- A step reads a variable, writes several at one moment, or is a call of a function of the source, which is passed over.
pub data VariableStep : Type 0 where
  ReadsVariable : (variable : ℕ) → VariableStep
  WritesVariables : (variables : List ℕ) → VariableStep
  PassesCall : (function : ℕ) → VariableStep

-- A point is marked with the step that has just been taken, if there is one.
abbrev pub VariablePoint : Type 1
VariablePoint = Point VariableStep (Option VariableStep)

abbrev pub VariableWays : Type 1
VariableWays = Ways VariableStep (Option VariableStep)

abbrev pub no_step : VariableWays
no_step = without_points nothing

-- a step, with a point before it and one after it
abbrev pub one_step : VariableStep → VariableWays
one_step step = marked_before None (marked_after (Some step) (without_points (Takes step)))

-- `&&` and `||` may leave their right operand out
abbrev pub uses_of_binary : BinaryMark → VariableWays → VariableWays → VariableWays
uses_of_binary Both left right = in_turn left (one_of right no_step)
uses_of_binary Either left right = in_turn left (one_of right no_step)
uses_of_binary mark left right = in_turn left right

abbrev pub variable_read : IrTarget → VariableWays
variable_read (Variable object) = one_step (ReadsVariable object)
variable_read target = no_step

abbrev pub variable_write : IrTarget → VariableWays
variable_write (Variable object) = one_step (WritesVariables (object ∷ []))
variable_write target = no_step

-- a compound assignment reads the old value, before its right side is evaluated
abbrev pub old_value_read : AssignMark → IrTarget → VariableWays
old_value_read assign.Plain target = no_step
old_value_read mark target = variable_read target

abbrev pub is_started : IrTrees → ℕ → Bool
is_started end object = false
is_started (more (Start started value) rest) object = (started == object) || is_started rest object
is_started (more tree rest) object = is_started rest object

-- those of these many objects, from this number on, that have no initialiser
abbrev pub not_started : IrTrees → ℕ → ℕ → List ℕ
not_started starts object zero = []
not_started starts object (suc count) =
    if is_started starts object then not_started starts (object + 1) count else object ∷ not_started starts (object + 1) count

abbrev mutual
  pub uses_of : IrTree → VariableWays
  uses_of (Constant value) = no_step
  uses_of (Read target) = in_turn (index_uses target) (variable_read target)
  uses_of (Address target) = index_uses target
  uses_of (Operate site kind operands weight) = all_in_turn (uses_in operands)
  uses_of (Convert cast width part) = uses_of part
  uses_of (Not part) = uses_of part
  uses_of (Invert part) = uses_of part
  uses_of (Binary mark left right) = uses_of_binary mark (uses_of left) (uses_of right)
  uses_of (Choose cond this other) = in_turn (uses_of cond) (one_of (uses_of this) (uses_of other))
  uses_of (Call function args) = in_turn (all_in_turn (uses_in args)) (one_step (PassesCall function))
  uses_of (ReadFlag word) = no_step
  uses_of Left = no_step
  uses_of (Write target mark width site value) = in_turn (index_uses target) (in_turn (old_value_read mark target) (in_turn (uses_of value) (variable_write target)))
  uses_of (Step target up width site) = in_turn (index_uses target) (in_turn (variable_read target) (variable_write target))
  uses_of (WriteFlag value) = uses_of value
  uses_of (Out value) = uses_of value
  uses_of (AddCount weight) = no_step
  uses_of (Start object value) = in_turn (uses_of value) (one_step (WritesVariables (object ∷ [])))
  uses_of Empty = no_step
  uses_of (Block first objects starts parts) =
      in_turn (one_step (WritesVariables (not_started starts first objects))) (in_turn (all_in_turn (uses_in starts)) (all_in_turn (uses_in parts)))
  uses_of (If cond this other) = in_turn (uses_of cond) (one_of (uses_of this) (all_in_turn (uses_in other)))
  uses_of (Loop cut tests_first first cond last body) =
      in_turn (all_in_turn (uses_in first)) (loop_ways tests_first (all_in_turn (uses_in cond)) (all_in_turn (uses_in last)) (uses_of body))
  uses_of (Leave again) = without_points (leaving (if again then Continued else Broken))
  uses_of (Return value) = in_turn (all_in_turn (uses_in value)) (without_points (leaving Returned))

  pub index_uses : IrTarget → VariableWays
  index_uses (Variable object) = no_step
  index_uses (Element object index) = all_in_turn (uses_in index)
  index_uses (ThroughView view index) = all_in_turn (uses_in index)

  -- each of them begins at a point, so there is one in code that is never reached, too
  pub uses_in : IrTrees → List VariableWays
  uses_in end = []
  uses_in (more first rest) = marked_before None (uses_of first) ∷ uses_in rest

-- entering a function writes its parameters
abbrev pub uses_of_function : TreeFunction → VariableWays
uses_of_function function = in_turn (one_step (WritesVariables function.params)) (uses_of function.body)

abbrev pub points_where : Option TreeFunction → List VariablePoint
points_where (Some function) = (uses_of_function function).points
points_where None = []

-- the points of the function of this number
abbrev pub points_in : IrWhole → ℕ → List VariablePoint
points_in tree function = points_where (slice_get tree.functions function)
