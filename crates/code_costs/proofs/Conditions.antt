-- The code of a condition has few words beside what its value may cost; what it is a part of has room for them.
use Rattle.std.proofs.Common.{ℕ, ◌+◌, ◌≤◌, ℤ, pos, ◌+ℤ◌, Bool, true, false, not, List, ◌++◌, length, length-append, arith}
use Rattle.c_tree.specs.declared.expression.BinaryMark.{BinaryMark}
use Rattle.c_tree.specs.declared.expression.BinaryMark.TheVariants as binary
use Rattle.operator_meaning.specs.declared.object.Object.{Object}
use Rattle.code_lines.specs.declared.word.Word.{Word}
use Rattle.ir_arena.specs.Costs.{cost_of, mark_words}
use Rattle.ir_arena.specs.Tree.{IrTree, Not, Binary}
use Rattle.code_lines.specs.Pieces.{flush_code}
use Rattle.code_jumps.specs.declared.branch.Test.TheVariants.{Unequal}
use Rattle.code_jumps.specs.declared.branch.Reach.{Reach}
use Rattle.code_jumps.specs.Jumps.{jump_where}
use Rattle.code_stacks.specs.Places.{Layout}
use Rattle.code_stacks.specs.Operands.{operand_register, fetches}
use Rattle.expression_code.specs.Code.{expression_code, weight_of}
use Rattle.condition_code.specs.Code.{compared, comparison_of, condition_code, is_relation, placed_by, relation_code, value_code}
use Rattle.code_costs.proofs.Expressions.{expression_short}
use Rattle.code_costs.proofs.Pieces.{fetch_short, fetches_short, flush_short, one_of, where_short}

-- beside what the value may cost
abbrev pub branch_words : ℕ
branch_words = 10

-- `&&` and `||` have room for the branches of both
pair_short : (xs ys : List Word) (most most_right : ℕ) → length xs ≤ most + branch_words → length ys ≤ most_right + branch_words → length (xs ++ ys) ≤ mark_words + most + most_right + branch_words
pair_short xs ys most most_right few few_right = omega (arith, few, few_right, length-append xs ys)

module _ (objects : List Object) (l : Layout) (reach : Reach) (depth : ℕ) where
  abbrev code_of : IrTree → (sense : Bool) → (lag : ℕ) → (distance : ℤ) → List Word
  code_of = condition_code objects l reach depth

  relation_short : (mark : BinaryMark) (left right : IrTree) (sense : Bool) (lag : ℕ) (distance : ℤ)
      → length (relation_code objects l reach depth mark left right sense lag distance) ≤ cost_of (Binary mark left right) + branch_words
  relation_short mark left right sense lag distance =
      let how = comparison_of mark in
      let first = expression_code objects l left depth in
      let second = expression_code objects l right (depth + 1) in
      let flush = flush_code (lag + weight_of left + weight_of right) in
      let jump = compared reach sense how depth distance in
      omega (
        arith,
        expression_short objects l left depth,
        expression_short objects l right (depth + 1),
        fetches_short l depth 2,
        flush_short (lag + weight_of left + weight_of right),
        where_short reach sense how.test (placed_by how.turned (operand_register depth 0) (operand_register depth 1)) (placed_by how.turned (operand_register depth 1) (operand_register depth 0)) distance,
        length-append first (second ++ (fetches l depth 2 ++ (flush ++ jump))),
        length-append second (fetches l depth 2 ++ (flush ++ jump)),
        length-append (fetches l depth 2) (flush ++ jump),
        length-append flush jump,
      )

  value_short : (e : IrTree) (sense : Bool) (lag : ℕ) (distance : ℤ) → length (value_code objects l reach depth e sense lag distance) ≤ cost_of e + branch_words
  value_short e sense lag distance =
      let value = expression_code objects l e depth in
      let flush = flush_code (lag + weight_of e) in
      let jump = jump_where reach sense Unequal (operand_register depth 0) 0 distance in
      omega (
        arith,
        expression_short objects l e depth,
        fetch_short l depth 0,
        flush_short (lag + weight_of e),
        where_short reach sense Unequal (operand_register depth 0) 0 distance,
        length-append value (fetches l depth 1 ++ (flush ++ jump)),
        length-append (fetches l depth 1) (flush ++ jump),
        length-append flush jump,
      )

  pub condition_short : (e : IrTree) (sense : Bool) (lag : ℕ) (distance : ℤ) → length (condition_code objects l reach depth e sense lag distance) ≤ cost_of e + branch_words
  condition_short (Not part) sense lag distance = omega (arith, condition_short part (not sense) lag distance)
  condition_short (Binary binary.Both left right) true lag distance =
      let ys = code_of right true 0 distance in
      let to = pos (length ys) in
      pair_short (code_of left false lag to) ys (cost_of left) (cost_of right) (condition_short left false lag to) (condition_short right true 0 distance)
  condition_short (Binary binary.Both left right) false lag distance =
      let ys = code_of right false 0 distance in
      let to = pos (length ys) +ℤ distance in
      pair_short (code_of left false lag to) ys (cost_of left) (cost_of right) (condition_short left false lag to) (condition_short right false 0 distance)
  condition_short (Binary binary.Either left right) true lag distance =
      let ys = code_of right true 0 distance in
      let to = pos (length ys) +ℤ distance in
      pair_short (code_of left true lag to) ys (cost_of left) (cost_of right) (condition_short left true lag to) (condition_short right true 0 distance)
  condition_short (Binary binary.Either left right) false lag distance =
      let ys = code_of right false 0 distance in
      let to = pos (length ys) in
      pair_short (code_of left true lag to) ys (cost_of left) (cost_of right) (condition_short left true lag to) (condition_short right false 0 distance)
  condition_short (Binary mark left right) sense lag distance =
      one_of (is_relation mark) (relation_code objects l reach depth mark left right sense lag distance) (value_code objects l reach depth (Binary mark left right) sense lag distance)
      (cost_of (Binary mark left right) + branch_words) (relation_short mark left right sense lag distance) (value_short (Binary mark left right) sense lag distance)
  condition_short e sense lag distance = value_short e sense lag distance
