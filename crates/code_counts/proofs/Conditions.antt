-- The code of a condition compares once more than the constructs in it account for; what it is a part of accounts for that.
use Rattle.std.proofs.Common.{ℕ, ◌+◌, ◌*◌, ℤ, pos, ◌+ℤ◌, Bool, true, false, not, List, ◌++◌, length, refl, arith}
use Rattle.c_tree.specs.declared.expression.BinaryMark.{BinaryMark}
use Rattle.c_tree.specs.declared.expression.BinaryMark.TheVariants as binary
use Rattle.operator_meaning.specs.declared.object.Object.{Object}
use Rattle.code_lines.specs.declared.word.Word.{Word}
use Rattle.ir_arena.specs.Tree.{IrTree, Not, Binary}
use Rattle.code_jumps.specs.declared.branch.Test.TheVariants.{Unequal}
use Rattle.code_jumps.specs.declared.branch.Reach.{Reach}
use Rattle.code_stacks.specs.Places.{Layout}
use Rattle.code_stacks.specs.Operands.{operand_register}
use Rattle.expression_code.specs.Code.{weight_of}
use Rattle.condition_code.specs.Code.{comparison_of, condition_code, is_relation, placed_by, relation_code, value_code}
use Rattle.code_counts.specs.Constructs.{constructs_of}
use Rattle.code_counts.proofs.Counted.{Counted, behind_still, either, joined, within}
use Rattle.code_counts.proofs.Expressions.{expression_counted}
use Rattle.code_counts.proofs.Pieces.{fetches_still, flush_still, where_compares}

-- `&&` and `||` account for the branches of both
pair_counted : {xs ys : List Word} (a b : ℕ) → Counted xs 0 (4 * a + 1) → Counted ys 0 (4 * b + 1) → Counted (xs ++ ys) 0 (4 * (a + b + 1) + 1)
pair_counted a b one other = within (joined one other) refl (omega arith)

module _ (objects : List Object) (l : Layout) (reach : Reach) (depth : ℕ) where
  abbrev code_of : IrTree → (sense : Bool) → (lag : ℕ) → (distance : ℤ) → List Word
  code_of = condition_code objects l reach depth

  relation_counted : (mark : BinaryMark) (left right : IrTree) (sense : Bool) (lag : ℕ) (distance : ℤ)
      → Counted (relation_code objects l reach depth mark left right sense lag distance) 0 (4 * constructs_of (Binary mark left right) + 1)
  relation_counted mark left right sense lag distance =
      let how = comparison_of mark in
      let one = placed_by how.turned (operand_register depth 0) (operand_register depth 1) in
      let other = placed_by how.turned (operand_register depth 1) (operand_register depth 0) in
      let branch = behind_still (flush_still (lag + weight_of left + weight_of right)) (where_compares reach sense how.test one other distance) in
      within (joined (expression_counted objects l left depth) (joined (expression_counted objects l right (depth + 1)) (behind_still (fetches_still l depth 2) branch))) refl (omega arith)

  value_counted : (e : IrTree) (sense : Bool) (lag : ℕ) (distance : ℤ) → Counted (value_code objects l reach depth e sense lag distance) 0 (4 * constructs_of e + 1)
  value_counted e sense lag distance =
      let branch = behind_still (flush_still (lag + weight_of e)) (where_compares reach sense Unequal (operand_register depth 0) 0 distance) in
      joined (expression_counted objects l e depth) (behind_still (fetches_still l depth 1) branch)

  pub condition_counted : (e : IrTree) (sense : Bool) (lag : ℕ) (distance : ℤ) → Counted (condition_code objects l reach depth e sense lag distance) 0 (4 * constructs_of e + 1)
  condition_counted (Not part) sense lag distance = within (condition_counted part (not sense) lag distance) refl (omega arith)
  condition_counted (Binary binary.Both left right) true lag distance =
      let to = pos (length (code_of right true 0 distance)) in
      pair_counted (constructs_of left) (constructs_of right) (condition_counted left false lag to) (condition_counted right true 0 distance)
  condition_counted (Binary binary.Both left right) false lag distance =
      let to = pos (length (code_of right false 0 distance)) +ℤ distance in
      pair_counted (constructs_of left) (constructs_of right) (condition_counted left false lag to) (condition_counted right false 0 distance)
  condition_counted (Binary binary.Either left right) true lag distance =
      let to = pos (length (code_of right true 0 distance)) +ℤ distance in
      pair_counted (constructs_of left) (constructs_of right) (condition_counted left true lag to) (condition_counted right true 0 distance)
  condition_counted (Binary binary.Either left right) false lag distance =
      let to = pos (length (code_of right false 0 distance)) in
      pair_counted (constructs_of left) (constructs_of right) (condition_counted left true lag to) (condition_counted right false 0 distance)
  condition_counted (Binary mark left right) sense lag distance =
      either (is_relation mark) (relation_counted mark left right sense lag distance) (value_counted (Binary mark left right) sense lag distance)
  condition_counted e sense lag distance = value_counted e sense lag distance
