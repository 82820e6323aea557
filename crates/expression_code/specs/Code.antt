-- The code of expressions over scalars: each leaves its value on the stack.
use Rattle.std.specs.Prelude.{ℕ, zero, suc, ◌+◌, ℤ, pos, negsuc, int_le, Bool, true, false, ◌&&◌, List, [], ◌∷◌, ◌++◌, length}
use Rattle.sat_base.specs.declared.width.Width.{Width}
use Rattle.sat_base.specs.declared.width.Width.TheVariants.{W16, W32}
use Rattle.c_tree.specs.declared.expression.BinaryMark.{BinaryMark}
use Rattle.c_tree.specs.declared.expression.BinaryMark.TheVariants as binary
use Rattle.operator_meaning.specs.declared.object.Object.{Object}
use Rattle.operator_meaning.specs.declared.site.Form.{Form}
use Rattle.operator_meaning.specs.declared.site.Form.TheVariants.{Plain, Flag}
use Rattle.operator_meaning.specs.declared.site.Guard.TheVariants.{Kept}
use Rattle.operator_meaning.specs.declared.site.SiteKind.{SiteKind}
use Rattle.operator_meaning.specs.declared.site.SiteKind.TheVariants as kind
use Rattle.operator_meaning.specs.Table.{row_of}
use Rattle.source_runs.specs.Shapes.{shape_of}
use Rattle.code_lines.specs.declared.word.Word.{Word}
use Rattle.code_lines.specs.Words.{template_of}
use Rattle.code_lines.specs.Own.{Addi, Sltiu, Xori, Slli, Srai, Slt, Sltu, Xor, Or, And, Sub}
use Rattle.template_runs.specs.declared.registers.Registers.{Registers}
use Rattle.operator_lowering.specs.Sites.{operand_count}
use Rattle.operator_lowering.specs.Words.{template_words}
use Rattle.ir_arena.specs.Tree.{IrTree, IrTarget, IrTrees, Constant, Read, Operate, Convert, Not, Invert, Binary, Choose, ReadFlag, Variable, end, more}
use Rattle.code_lines.specs.Pieces.{number_code, flush_code}
use Rattle.code_jumps.specs.declared.branch.Test.TheVariants.{Unequal}
use Rattle.code_jumps.specs.Jumps.{jump_where, past_code, reach_of, is_near}
use Rattle.code_memory.specs.Memory.{load_code}
use Rattle.code_stacks.specs.Places.{Layout, stack_register}
use Rattle.code_stacks.specs.Operands.{operand_register, fetches, finish_code}

-- ---- numbers of 16 bits by their form

abbrev pub has_sixteen : ℤ → Bool
has_sixteen value = int_le (negsuc 32767) value && int_le value (pos 32767)

abbrev pub is_sixteen : Width → Bool
is_sixteen W16 = true
is_sixteen W32 = false

abbrev pub gives_sixteen : SiteKind → Bool
gives_sixteen (kind.Call op) = is_sixteen (row_of op).gives
gives_sixteen other = false

abbrev pub read_sixteen : List Object → IrTarget → Bool
read_sixteen objects (Variable object) = is_sixteen (shape_of objects object).width
read_sixteen objects target = false

-- the form of the tree shows that its value has 16 bits
abbrev pub fits_sixteen : List Object → IrTree → Bool
fits_sixteen objects (Constant value) = has_sixteen value
fits_sixteen objects (Read target) = read_sixteen objects target
fits_sixteen objects (Operate site kind operands weight) = gives_sixteen kind
fits_sixteen objects (Convert cast width part) = is_sixteen width
fits_sixteen objects tree = false

-- ---- sites

-- an operator sets Overflow; the other kinds have no clip
abbrev pub form_of : SiteKind → Form
form_of (kind.Call op) = Flag
form_of other = Plain

-- the registers of a site with so many operands on top of a stack of this depth
abbrev pub site_registers : (depth count : ℕ) → Registers
site_registers depth zero = record { result = stack_register depth; first = stack_register depth; second = stack_register depth; third = stack_register depth }
site_registers depth (suc zero) = record { result = stack_register depth; first = operand_register depth 0; second = stack_register depth; third = stack_register depth }
site_registers depth (suc (suc zero)) = record { result = stack_register depth; first = operand_register depth 0; second = operand_register depth 1; third = stack_register depth }
site_registers depth count = record { result = stack_register depth; first = operand_register depth 0; second = operand_register depth 1; third = operand_register depth 2 }

-- the widths of the places of a site's operands
abbrev pub widths_of : SiteKind → List Width
widths_of (kind.Call op) = (row_of op).takes
widths_of other = []

abbrev pub first_width : List Width → Width
first_width [] = W32
first_width (width ∷ widths) = width

abbrev pub other_widths : List Width → List Width
other_widths [] = []
other_widths (width ∷ widths) = widths

-- ---- what computes a value of the topmost ones, which it replaces

abbrev pub around : Layout → (depth count : ℕ) → List Word → List Word
around l depth count words = fetches l depth count ++ (words ++ finish_code l depth)

-- its words, where no site is without its guard
abbrev pub template_code : SiteKind → Form → (site depth count : ℕ) → List Word
template_code kind form site depth count = template_of site (template_words kind form Kept site (site_registers depth count))

abbrev pub site_code : Layout → (depth count site : ℕ) → SiteKind → List Word
site_code l depth count site kind = around l depth count (template_code kind (form_of kind) site depth count)

-- the low 16 bits, as signed
abbrev pub narrow_line : ℕ → List Word
narrow_line depth = Slli (stack_register depth) (operand_register depth 0) 16 ∷ Srai (stack_register depth) (stack_register depth) 16 ∷ []

abbrev pub not_line : ℕ → List Word
not_line depth = Sltiu (stack_register depth) (operand_register depth 0) (pos 1) ∷ []

abbrev pub invert_line : ℕ → List Word
invert_line depth = Addi 5 0 (negsuc 0) ∷ Sub (stack_register depth) 5 (operand_register depth 0) ∷ []

-- 1 becomes 0, and 0 becomes 1
abbrev pub turned : ℕ → Word → List Word
turned depth instr = instr ∷ Xori (stack_register depth) (stack_register depth) (pos 1) ∷ []

abbrev pub binary_line : BinaryMark → ℕ → List Word
binary_line binary.BitAnd depth = And (stack_register depth) (operand_register depth 0) (operand_register depth 1) ∷ []
binary_line binary.BitOr depth = Or (stack_register depth) (operand_register depth 0) (operand_register depth 1) ∷ []
binary_line binary.BitXor depth = Xor (stack_register depth) (operand_register depth 0) (operand_register depth 1) ∷ []
binary_line binary.Eq depth =
    Sub (stack_register depth) (operand_register depth 0) (operand_register depth 1) ∷ Sltiu (stack_register depth) (stack_register depth) (pos 1) ∷ []
binary_line binary.Ne depth =
    Sub (stack_register depth) (operand_register depth 0) (operand_register depth 1) ∷ Sltu (stack_register depth) 0 (stack_register depth) ∷ []
binary_line binary.Lt depth = Slt (stack_register depth) (operand_register depth 0) (operand_register depth 1) ∷ []
binary_line binary.Le depth = turned depth (Slt (stack_register depth) (operand_register depth 1) (operand_register depth 0))
binary_line binary.Gt depth = Slt (stack_register depth) (operand_register depth 1) (operand_register depth 0) ∷ []
binary_line binary.Ge depth = turned depth (Slt (stack_register depth) (operand_register depth 0) (operand_register depth 1))
binary_line mark depth = []

-- ---- the weight by which the count lags behind

-- Where the right operand may be left out, its weight, and that of the left one, is brought up at once.
abbrev pub weight_by : BinaryMark → (left right : ℕ) → ℕ
weight_by binary.Both left right = 0
weight_by binary.Either left right = 0
weight_by mark left right = left + right

-- operators alone are counted
abbrev pub own_weight : SiteKind → ℕ → ℕ
own_weight (kind.Call op) weight = weight
own_weight other weight = 0

abbrev mutual
  pub weight_of : IrTree → ℕ
  weight_of (Operate site kind operands weight) = weights_of operands + own_weight kind weight
  weight_of (Convert cast width part) = weight_of part
  weight_of (Not part) = weight_of part
  weight_of (Invert part) = weight_of part
  weight_of (Binary mark left right) = weight_by mark (weight_of left) (weight_of right)
  weight_of tree = 0

  pub weights_of : IrTrees → ℕ
  weights_of end = 0
  weights_of (more first rest) = weight_of first + weights_of rest

-- ---- values that are evaluated in part

-- 1 where the value is not 0, and else 0
abbrev pub truth_line : ℕ → List Word
truth_line depth = Sltu (stack_register depth) 0 (operand_register depth 0) ∷ []

abbrev pub constant_code : Layout → ℤ → (depth : ℕ) → List Word
constant_code l value depth = number_code (stack_register depth) value ++ finish_code l depth

-- a branch over so many words where the value on top, which it takes, is 0; before it a weight is brought up
abbrev pub over_code : Layout → (depth weight words : ℕ) → List Word
over_code l depth weight words = fetches l depth 1 ++ (flush_code weight ++ jump_where (reach_of words) false Unequal (operand_register depth 0) 0 (pos words))

abbrev pub pass_code : (words : ℕ) → List Word
pass_code words = past_code (is_near words) (pos words)

-- a value with its weight, and code for the case that it is not 0 and for the case that it is
abbrev pub chosen_code : Layout → (depth weight : ℕ) → (value this other : List Word) → List Word
chosen_code l depth weight value this other =
    value ++ (over_code l depth weight (length (this ++ pass_code (length other))) ++ ((this ++ pass_code (length other)) ++ other))

-- code of a value, and its weight
abbrev pub counted_code : (value : List Word) → (weight : ℕ) → List Word
counted_code value weight = value ++ flush_code weight

abbrev pub truth_code : Layout → (depth : ℕ) → (value : List Word) → (weight : ℕ) → List Word
truth_code l depth value weight = counted_code value weight ++ around l depth 1 (truth_line depth)

-- the code of an operand, with its weight
pub record Operand : Type 0 where
  pub code : (depth : ℕ) → List Word
  pub weight : ℕ

abbrev pub marked_code : Layout → BinaryMark → (depth : ℕ) → (left right : Operand) → List Word
marked_code l binary.Both depth left right = chosen_code l depth left.weight (left.code depth) (truth_code l depth (right.code depth) right.weight) (constant_code l (pos 0) depth)
marked_code l binary.Either depth left right = chosen_code l depth left.weight (left.code depth) (constant_code l (pos 1) depth) (truth_code l depth (right.code depth) right.weight)
marked_code l mark depth left right = left.code depth ++ (right.code (depth + 1) ++ around l depth 2 (binary_line mark depth))

-- ---- expressions

module _ (objects : List Object) (l : Layout) where
  -- a value is converted to a width, but where its form shows that it has it
  abbrev pub convert_code : Width → (shown : Bool) → (depth : ℕ) → List Word
  convert_code W32 shown depth = []
  convert_code W16 true depth = []
  convert_code W16 false depth = around l depth 1 (narrow_line depth)

  abbrev mutual
    pub expression_code : IrTree → (depth : ℕ) → List Word
    expression_code (Constant value) depth = constant_code l value depth
    expression_code (Read target) depth = read_code target depth
    expression_code (Operate site kind operands weight) depth = operands_code (widths_of kind) operands depth ++ site_code l depth (operand_count kind) site kind
    expression_code (Convert cast width part) depth = expression_code part depth ++ convert_code width (fits_sixteen objects part) depth
    expression_code (Not part) depth = expression_code part depth ++ around l depth 1 (not_line depth)
    expression_code (Invert part) depth = expression_code part depth ++ around l depth 1 (invert_line depth)
    expression_code (Binary mark left right) depth =
        marked_code l mark depth (record { code = expression_code left; weight = weight_of left }) (record { code = expression_code right; weight = weight_of right })
    expression_code (Choose cond this other) depth =
        chosen_code l depth (weight_of cond) (expression_code cond depth) (counted_code (expression_code this depth) (weight_of this)) (counted_code (expression_code other depth) (weight_of other))
    expression_code (ReadFlag word) depth = Addi (stack_register depth) 27 (pos 0) ∷ finish_code l depth
    expression_code tree depth = []

    pub read_code : IrTarget → (depth : ℕ) → List Word
    read_code (Variable object) depth = load_code (stack_register depth) (l.slot object) ++ finish_code l depth
    read_code target depth = []

    -- operands one after the other, each converted to the width of its place
    pub operands_code : List Width → IrTrees → (depth : ℕ) → List Word
    operands_code widths end depth = []
    operands_code widths (more first rest) depth =
        (expression_code first depth ++ convert_code (first_width widths) (fits_sixteen objects first) depth) ++ operands_code (other_widths widths) rest (depth + 1)
