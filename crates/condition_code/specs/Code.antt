-- The code of conditions: they branch, and make no number that is compared again.
use Rattle.std.specs.Prelude.{ℕ, ◌+◌, ℤ, pos, ◌+ℤ◌, Bool, true, false, not, if◌then◌else◌, List, ◌++◌, length}
use Rattle.c_tree.specs.declared.expression.BinaryMark.{BinaryMark}
use Rattle.c_tree.specs.declared.expression.BinaryMark.TheVariants as binary
use Rattle.operator_meaning.specs.declared.object.Object.{Object}
use Rattle.code_lines.specs.declared.word.Word.{Word}
use Rattle.ir_arena.specs.Tree.{IrTree, Not, Binary}
use Rattle.condition_code.specs.declared.comparison.Comparison.{Comparison}
use Rattle.code_lines.specs.Pieces.{flush_code}
use Rattle.code_jumps.specs.declared.branch.Test.TheVariants.{Equal, Unequal, Less, NotLess}
use Rattle.code_jumps.specs.declared.branch.Reach.{Reach}
use Rattle.code_jumps.specs.Jumps.{jump_where}
use Rattle.code_stacks.specs.Places.{Layout}
use Rattle.code_stacks.specs.Operands.{operand_register, fetches}
use Rattle.expression_code.specs.Code.{expression_code, weight_of}

-- ---- relations

-- how two registers are compared for a relation
abbrev pub comparison_of : BinaryMark → Comparison
comparison_of binary.Eq = record { test = Equal; turned = false }
comparison_of binary.Ne = record { test = Unequal; turned = false }
comparison_of binary.Lt = record { test = Less; turned = false }
comparison_of binary.Ge = record { test = NotLess; turned = false }
comparison_of binary.Gt = record { test = Less; turned = true }
comparison_of mark = record { test = NotLess; turned = true }

abbrev pub is_relation : BinaryMark → Bool
is_relation binary.Eq = true
is_relation binary.Ne = true
is_relation binary.Lt = true
is_relation binary.Le = true
is_relation binary.Gt = true
is_relation binary.Ge = true
is_relation mark = false

-- ---- branches

-- the one of two, or the other where they change places
abbrev pub placed_by : {A : Type 0} → (turned : Bool) → A → A → A
placed_by true one other = other
placed_by false one other = one

abbrev pub compared : Reach → (sense : Bool) → Comparison → (depth : ℕ) → (distance : ℤ) → List Word
compared reach sense how depth distance =
    jump_where reach sense how.test (placed_by how.turned (operand_register depth 0) (operand_register depth 1)) (placed_by how.turned (operand_register depth 1) (operand_register depth 0)) distance

-- ---- conditions

module _ (objects : List Object) (l : Layout) (reach : Reach) (depth : ℕ) where
  -- two values are compared
  abbrev pub relation_code : BinaryMark → (left right : IrTree) → (sense : Bool) → (lag : ℕ) → (distance : ℤ) → List Word
  relation_code mark left right sense lag distance =
      expression_code objects l left depth
      ++ (expression_code objects l right (depth + 1) ++ (fetches l depth 2 ++ (flush_code (lag + weight_of left + weight_of right) ++ compared reach sense (comparison_of mark) depth distance)))

  -- a value is compared with 0
  abbrev pub value_code : IrTree → (sense : Bool) → (lag : ℕ) → (distance : ℤ) → List Word
  value_code value sense lag distance =
      expression_code objects l value depth ++ (fetches l depth 1 ++ (flush_code (lag + weight_of value) ++ jump_where reach sense Unequal (operand_register depth 0) 0 distance))

  -- The code leads by so many words from its end where the condition holds as is wanted, and else to its end. The count does
  -- not lag behind at either place.
  abbrev pub condition_code : IrTree → (sense : Bool) → (lag : ℕ) → (distance : ℤ) → List Word
  condition_code (Not part) sense lag distance = condition_code part (not sense) lag distance
  condition_code (Binary binary.Both left right) true lag distance =
      condition_code left false lag (pos (length (condition_code right true 0 distance))) ++ condition_code right true 0 distance
  condition_code (Binary binary.Both left right) false lag distance =
      condition_code left false lag (pos (length (condition_code right false 0 distance)) +ℤ distance) ++ condition_code right false 0 distance
  condition_code (Binary binary.Either left right) true lag distance =
      condition_code left true lag (pos (length (condition_code right true 0 distance)) +ℤ distance) ++ condition_code right true 0 distance
  condition_code (Binary binary.Either left right) false lag distance =
      condition_code left true lag (pos (length (condition_code right false 0 distance))) ++ condition_code right false 0 distance
  condition_code (Binary mark left right) sense lag distance =
      if is_relation mark then relation_code mark left right sense lag distance else value_code (Binary mark left right) sense lag distance
  condition_code tree sense lag distance = value_code tree sense lag distance
