-- The code of a condition has the templates of its sites, as that of its value has.
use Rattle.std.proofs.Common.{ℕ, ◌+◌, ℤ, pos, ◌+ℤ◌, Bool, true, false, not, List, length}
use Rattle.c_tree.specs.declared.expression.BinaryMark.{BinaryMark}
use Rattle.c_tree.specs.declared.expression.BinaryMark.TheVariants as binary
use Rattle.operator_meaning.specs.declared.object.Object.{Object}
use Rattle.code_lines.specs.declared.word.Word.{Word}
use Rattle.ir_arena.specs.Tree.{IrTree, Not, Binary}
use Rattle.code_jumps.specs.declared.branch.Test.TheVariants.{Unequal}
use Rattle.code_jumps.specs.declared.branch.Reach.{Reach}
use Rattle.code_stacks.specs.Places.{Layout}
use Rattle.code_stacks.specs.Operands.{operand_register}
use Rattle.expression_code.specs.Code.{weight_of}
use Rattle.condition_code.specs.Code.{comparison_of, condition_code, is_relation, placed_by, relation_code, value_code}
use Rattle.code_entries.specs.Entries.{entries_of_value}
use Rattle.code_entries.specs.Pieces.{IsMade}
use Rattle.code_entries.proofs.Made.{before_plain, either, joined}
use Rattle.code_entries.proofs.Expressions.{expression_made}
use Rattle.code_entries.proofs.Pieces.{fetches_plain, flush_plain, where_plain}

module _ (objects : List Object) (l : Layout) (reach : Reach) (depth : ℕ) where
  abbrev code_of : IrTree → (sense : Bool) → (lag : ℕ) → (distance : ℤ) → List Word
  code_of = condition_code objects l reach depth

  relation_made : (mark : BinaryMark) (left right : IrTree) (sense : Bool) (lag : ℕ) (distance : ℤ)
      → IsMade (relation_code objects l reach depth mark left right sense lag distance) (entries_of_value (Binary mark left right))
  relation_made mark left right sense lag distance =
      let how = comparison_of mark in
      let one = placed_by how.turned (operand_register depth 0) (operand_register depth 1) in
      let other = placed_by how.turned (operand_register depth 1) (operand_register depth 0) in
      let branch = joined (flush_plain (lag + weight_of left + weight_of right)) (where_plain reach sense how.test one other distance) in
      joined (expression_made objects l left depth) (before_plain (expression_made objects l right (depth + 1)) (joined (fetches_plain l depth 2) branch))

  value_made : (e : IrTree) (sense : Bool) (lag : ℕ) (distance : ℤ) → IsMade (value_code objects l reach depth e sense lag distance) (entries_of_value e)
  value_made e sense lag distance =
      let branch = joined (flush_plain (lag + weight_of e)) (where_plain reach sense Unequal (operand_register depth 0) 0 distance) in
      before_plain (expression_made objects l e depth) (joined (fetches_plain l depth 1) branch)

  pub condition_made : (e : IrTree) (sense : Bool) (lag : ℕ) (distance : ℤ) → IsMade (condition_code objects l reach depth e sense lag distance) (entries_of_value e)
  condition_made (Not part) sense lag distance = condition_made part (not sense) lag distance
  condition_made (Binary binary.Both left right) true lag distance =
      joined (condition_made left false lag (pos (length (code_of right true 0 distance)))) (condition_made right true 0 distance)
  condition_made (Binary binary.Both left right) false lag distance =
      joined (condition_made left false lag (pos (length (code_of right false 0 distance)) +ℤ distance)) (condition_made right false 0 distance)
  condition_made (Binary binary.Either left right) true lag distance =
      joined (condition_made left true lag (pos (length (code_of right true 0 distance)) +ℤ distance)) (condition_made right true 0 distance)
  condition_made (Binary binary.Either left right) false lag distance =
      joined (condition_made left true lag (pos (length (code_of right false 0 distance)))) (condition_made right false 0 distance)
  condition_made (Binary mark left right) sense lag distance =
      either (is_relation mark) (relation_made mark left right sense lag distance) (value_made (Binary mark left right) sense lag distance)
  condition_made e sense lag distance = value_made e sense lag distance
