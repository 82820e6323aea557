-- The code of assignments to scalars and to Overflow, of steps, of samples that are written, of counting calls, and of
-- operators whose value is not used.
use Rattle.std.specs.Prelude.{ℕ, pos, Bool, true, false, ◌&&◌, List, [], ◌∷◌, ◌++◌, Option}
use Rattle.c_tree.specs.declared.expression.BinaryMark.TheVariants as binary
use Rattle.c_tree.specs.declared.simple.AssignMark.{AssignMark}
use Rattle.c_tree.specs.declared.simple.AssignMark.TheVariants as assign
use Rattle.operator_meaning.specs.declared.object.Object.{Object}
use Rattle.operator_meaning.specs.declared.site.SiteKind.TheVariants as kind
use Rattle.source_runs.specs.Shapes.{shape_of}
use Rattle.typed_meaning.specs.Expressions.{site_at}
use Rattle.typed_meaning.specs.Statements.{step_mark}
use Rattle.code_lines.specs.declared.word.Word.{Word}
use Rattle.code_lines.specs.Own.{Addi, Ecall}
use Rattle.ir_arena.specs.Tree.{IrTree, IrTarget, Constant, Read, Operate, Binary, Write, Step, WriteFlag, Out, AddCount, Variable, end, more}
use Rattle.code_memory.specs.Memory.{store_code}
use Rattle.code_stacks.specs.Places.{Layout}
use Rattle.expression_code.specs.Code.{convert_code, fits_sixteen, expression_code, weight_of}
use Rattle.expression_code.specs.Straight.{is_straight, height_of}

-- the register of a value that is alone on the stack
abbrev pub value_register : ℕ
value_register = 8

-- a sample is written by the environment call 3, of x10
abbrev pub out_line : List Word
out_line = Addi 10 value_register (pos 0) ∷ Addi 17 0 (pos 3) ∷ []

-- ---- what is assigned

-- what the mark of an assignment makes of the old value and of the right side, which a plain one takes as it is
abbrev pub computed : IrTarget → AssignMark → (site : ℕ) → IrTree → IrTree
computed target assign.Plain site value = value
computed target assign.Plus site value = Operate site kind.Sum (more (Read target) (more value end)) 0
computed target assign.Minus site value = Operate site kind.Difference (more (Read target) (more value end)) 0
computed target assign.Times site value = Operate site kind.Product (more (Read target) (more value end)) 0
computed target assign.And site value = Binary binary.BitAnd (Read target) value
computed target assign.Or site value = Binary binary.BitOr (Read target) value
computed target assign.Xor site value = Binary binary.BitXor (Read target) value

abbrev pub written_by : IrTarget → AssignMark → Option ℕ → IrTree → IrTree
written_by target mark site value = computed target mark (site_at site) value

-- a step adds or subtracts 1
abbrev pub stepped_by : IrTarget → (up : Bool) → (site : ℕ) → IrTree
stepped_by target up site = computed target (step_mark up) site (Constant (pos 1))

module _ (objects : List Object) (l : Layout) where
  -- a value is converted to the width of the variable, and goes to its word
  abbrev pub assigned_code : IrTarget → IrTree → List Word
  assigned_code (Variable n) value =
      expression_code objects l value 0 ++ (convert_code objects l (shape_of objects n).width (fits_sixteen objects value) 0 ++ store_code value_register (l.slot n))
  assigned_code target value = []

  abbrev pub simple_code : IrTree → List Word
  simple_code (Write target mark width site value) = assigned_code target (written_by target mark site value)
  simple_code (Step target up width site) = assigned_code target (stepped_by target up site)
  simple_code (WriteFlag value) = expression_code objects l value 0 ++ Addi 27 value_register (pos 0) ∷ []
  simple_code (Out value) = expression_code objects l value 0 ++ (out_line ++ Ecall ∷ [])
  -- its value stays where the next one goes
  simple_code (Operate site kind operands weight) = expression_code objects l (Operate site kind operands weight) 0
  simple_code tree = []

-- ---- those that have such code

abbrev pub is_target : Layout → IrTarget → Bool
is_target l (Variable n) = l.is_variable n
is_target l target = false

abbrev pub is_simple : Layout → IrTree → Bool
is_simple l (Write target mark width site value) = is_target l target && is_straight l (written_by target mark site value)
is_simple l (Step target up width site) = is_target l target && is_straight l (stepped_by target up site)
is_simple l (WriteFlag value) = is_straight l value
is_simple l (Out value) = is_straight l value
is_simple l (AddCount weight) = true
is_simple l (Operate site kind operands weight) = is_straight l (Operate site kind operands weight)
is_simple l tree = false

-- the weight by which the count lags behind
abbrev pub weight_of_simple : IrTree → ℕ
weight_of_simple (Write target mark width site value) = weight_of (written_by target mark site value)
weight_of_simple (Step target up width site) = weight_of (stepped_by target up site)
weight_of_simple (WriteFlag value) = weight_of value
weight_of_simple (Out value) = weight_of value
weight_of_simple (AddCount weight) = weight
weight_of_simple (Operate site kind operands weight) = weight_of (Operate site kind operands weight)
weight_of_simple tree = 0

-- the places of the stack that it takes at once
abbrev pub height_of_simple : IrTree → ℕ
height_of_simple (Write target mark width site value) = height_of (written_by target mark site value)
height_of_simple (Step target up width site) = height_of (stepped_by target up site)
height_of_simple (WriteFlag value) = height_of value
height_of_simple (Out value) = height_of value
height_of_simple (Operate site kind operands weight) = height_of (Operate site kind operands weight)
height_of_simple tree = 0
