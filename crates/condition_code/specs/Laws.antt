-- What is promised of the code of a condition.
use Rattle.std.specs.Prelude.{◌≡◌, ℕ, ◌+◌, ◌^◌, ◌<◌, ◌≤◌, max, ℤ, pos, ◌+ℤ◌, Bool, true, ◌&&◌, if◌then◌else◌, List, length}
use Rattle.c_tree.specs.declared.expression.BinaryMark.TheVariants as binary
use Rattle.operator_meaning.specs.declared.object.Object.{Object}
use Rattle.source_runs.specs.Runs.{holds}
use Rattle.typed_meaning.specs.Expressions.{Setting, Called}
use Rattle.ir_arena.specs.Tree.{IrTree, Not, Binary}
use Rattle.tree_meaning.specs.Trees.{value_meaning}
use Rattle.code_lines.specs.Words.{StandHere, Code}
use Rattle.code_jumps.specs.declared.branch.Reach.{Reach}
use Rattle.code_jumps.specs.Jumps.{met}
use Rattle.code_runs.specs.Doing.{Bond, DoesIn, side}
use Rattle.code_stacks.specs.Places.{Layout, IsLaidOut}
use Rattle.code_stacks.specs.Agreement.{With}
use Rattle.expression_code.specs.Code.{weight_of}
use Rattle.expression_code.specs.Laws.{AreScalars}
use Rattle.expression_code.specs.Straight.{is_straight, height_of}
use Rattle.condition_code.specs.Code.{condition_code}

-- ---- conditions that have such code

abbrev pub is_condition : Layout → IrTree → Bool
is_condition l (Not part) = is_condition l part
is_condition l (Binary binary.Both left right) = is_condition l left && is_condition l right
is_condition l (Binary binary.Either left right) = is_condition l left && is_condition l right
is_condition l tree = is_straight l tree

-- the places of the stack that a condition takes at once, and all that it may weigh
abbrev pub height_of_condition : IrTree → ℕ
height_of_condition (Not part) = height_of_condition part
height_of_condition (Binary binary.Both left right) = max (height_of_condition left) (height_of_condition right)
height_of_condition (Binary binary.Either left right) = max (height_of_condition left) (height_of_condition right)
height_of_condition tree = height_of tree

abbrev pub weight_of_condition : IrTree → ℕ
weight_of_condition (Not part) = weight_of_condition part
weight_of_condition (Binary binary.Both left right) = weight_of_condition left + weight_of_condition right
weight_of_condition (Binary binary.Either left right) = weight_of_condition left + weight_of_condition right
weight_of_condition tree = weight_of tree

-- ---- where it leads

abbrev pub Decided : List Object → Layout → (target end : ℕ) → List ℤ → (sense : Bool) → ℤ → Bond
Decided objects l target end values sense value = side (With objects l target 0 values) (With objects l end 0 values) (met sense (holds value))

-- a jump takes an instruction
abbrev pub one_if_met : (sense : Bool) → ℤ → ℕ
one_if_met sense value = if met sense (holds value) then 1 else 0

-- From its first word the code evaluates the condition, and leads to the target where it holds as is wanted, and else to its
-- end. There the count does not lag behind.
abbrev pub ConditionsAreDone : Type 0
ConditionsAreDone = (code : Code) (turns : ℕ) (l : Layout) (here : Setting) (called : Called) (reach : Reach) (e : IrTree) (sense : Bool) (k lag : ℕ) (values : List ℤ) (distance : ℤ) (target : ℕ)
    → IsLaidOut code l → AreScalars here.objects l → is_condition l e ≡ true → length values + height_of_condition e ≤ l.depth → lag + weight_of_condition e < 2 ^ 31
    → StandHere code k (condition_code here.objects l reach (length values) e sense lag distance)
    → pos target ≡ pos (k + length (condition_code here.objects l reach (length values) e sense lag distance)) +ℤ distance → target ≤ 16777216
    → DoesIn code turns (one_if_met sense) (With here.objects l k lag values) (value_meaning here called e)
    (Decided here.objects l target (k + length (condition_code here.objects l reach (length values) e sense lag distance)) values sense)
