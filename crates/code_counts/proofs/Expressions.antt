-- The code of an expression writes no Overflow, and compares at most four times for each construct that may compare.
use Rattle.std.proofs.Common.{ℕ, ◌+◌, ◌*◌, ℤ, pos, negsuc, Bool, true, false, List, ◌++◌, length, refl, lit≤, arith}
use Rattle.sat_base.specs.declared.width.Width.{Width}
use Rattle.sat_base.specs.declared.width.Width.TheVariants.{W16, W32}
use Rattle.c_tree.specs.declared.expression.BinaryMark.{BinaryMark}
use Rattle.c_tree.specs.declared.expression.BinaryMark.TheVariants as binary
use Rattle.operator_meaning.specs.declared.object.Object.{Object}
use Rattle.operator_meaning.specs.declared.site.Guard.TheVariants.{Kept}
use Rattle.operator_meaning.specs.declared.site.SiteKind.{SiteKind}
use Rattle.rv_encode.specs.declared.instruction.Instr.TheVariants as instr
use Rattle.operator_lowering.specs.Sites.{operand_count}
use Rattle.operator_lowering.specs.Words.{template_words}
use Rattle.code_lines.specs.declared.word.Word.{Word}
use Rattle.ir_arena.specs.Tree.{IrTree, IrTarget, IrTrees, Constant, Read, Operate, Convert, Not, Invert, Binary, Choose, ReadFlag, Variable, end, more}
use Rattle.code_jumps.specs.declared.branch.Test.TheVariants.{Unequal}
use Rattle.code_jumps.specs.Jumps.{is_near, reach_of}
use Rattle.code_stacks.specs.Places.{Layout, stack_register}
use Rattle.code_stacks.specs.Operands.{operand_register}
use Rattle.expression_code.specs.Code.{Operand, around, binary_line, chosen_code, constant_code, convert_code, expression_code, first_width, fits_sixteen, form_of, narrow_line, operands_code, other_widths, over_code, pass_code, read_code, site_code, site_registers, truth_code, weight_of, widths_of, marked_code}
use Rattle.code_counts.specs.Constructs.{constructs_in, constructs_of, constructs_of_mark}
use Rattle.code_counts.proofs.Counted.{Counted, before_still, behind_still, joined, none, one_compares, stack_kept, still, template_still, within}
use Rattle.code_counts.proofs.Pieces.{around_counted, fetches_still, finish_still, flush_still, load_still, number_still, past_still, where_compares}

module _ (l : Layout) (depth : ℕ) where
  abbrev result : ℕ
  result = stack_register depth

  abbrev operand : ℕ → ℕ
  operand = operand_register depth

  -- ---- values

  pub constant_still : (value : ℤ) → Counted (constant_code l value depth) 0 0
  constant_still value = behind_still (number_still result value (stack_kept depth)) (finish_still l depth)

  narrow_still : Counted (around l depth 1 (narrow_line depth)) 0 0
  narrow_still =
      around_counted l depth 1 (behind_still (still (instr.Slli result (operand 0) 16) (stack_kept depth) refl) (still (instr.Srai result result 16) (stack_kept depth) refl))

  pub site_still : (count site : ℕ) (kind : SiteKind) → Counted (site_code l depth count site kind) 0 0
  site_still count site kind = around_counted l depth count (template_still site (template_words kind (form_of kind) Kept site (site_registers depth count)))

  -- ---- choices

  over_compares : (weight words : ℕ) → Counted (over_code l depth weight words) 0 1
  over_compares weight words =
      behind_still (fetches_still l depth 1) (behind_still (flush_still weight) (where_compares (reach_of words) false Unequal (operand 0) 0 (pos words)))

  pub chosen_counted : (weight : ℕ) {value this other : List Word} {a b c : ℕ} → Counted value 0 a → Counted this 0 b → Counted other 0 c
      → Counted (chosen_code l depth weight value this other) 0 (a + b + c + 1)
  chosen_counted weight {value} {this} {other} one two three =
      let over = over_compares weight (length (this ++ pass_code (length other))) in
      let pass = past_still (is_near (length other)) (pos (length other)) in
      within (joined one (joined over (joined (before_still two pass) three))) refl (omega arith)

  truth_compares : (weight : ℕ) {value : List Word} {a : ℕ} → Counted value 0 a → Counted (truth_code l depth value weight) 0 (a + 1)
  truth_compares weight one = joined (before_still one (flush_still weight)) (around_counted l depth 1 (one_compares (instr.Sltu result 0 (operand 0)) (stack_kept depth)))

  -- ---- marks

  line_counted : (mark : BinaryMark) → Counted (binary_line mark depth) 0 (constructs_of_mark mark)
  line_counted binary.BitAnd = still (instr.And result (operand 0) (operand 1)) (stack_kept depth) refl
  line_counted binary.BitOr = still (instr.Or result (operand 0) (operand 1)) (stack_kept depth) refl
  line_counted binary.BitXor = still (instr.Xor result (operand 0) (operand 1)) (stack_kept depth) refl
  line_counted binary.Eq =
      behind_still (still (instr.Sub result (operand 0) (operand 1)) (stack_kept depth) refl) (one_compares (instr.Sltiu result result (pos 1)) (stack_kept depth))
  line_counted binary.Ne =
      behind_still (still (instr.Sub result (operand 0) (operand 1)) (stack_kept depth) refl) (one_compares (instr.Sltu result 0 result) (stack_kept depth))
  line_counted binary.Lt = one_compares (instr.Slt result (operand 0) (operand 1)) (stack_kept depth)
  line_counted binary.Le =
      before_still (one_compares (instr.Slt result (operand 1) (operand 0)) (stack_kept depth)) (still (instr.Xori result result (pos 1)) (stack_kept depth) refl)
  line_counted binary.Gt = one_compares (instr.Slt result (operand 1) (operand 0)) (stack_kept depth)
  line_counted binary.Ge =
      before_still (one_compares (instr.Slt result (operand 0) (operand 1)) (stack_kept depth)) (still (instr.Xori result result (pos 1)) (stack_kept depth) refl)
  line_counted mark = within none refl (lit≤ tt)

  pub marked_counted : (mark : BinaryMark) (left right : Operand) {a b : ℕ} → Counted (left.code depth) 0 a → Counted (right.code depth) 0 b → Counted (right.code (depth + 1)) 0 b
      → Counted (marked_code l mark depth left right) 0 (a + b + 4 * constructs_of_mark mark)
  marked_counted binary.Both left right one other above =
      within (chosen_counted left.weight one (truth_compares right.weight other) (constant_still (pos 0))) refl (omega arith)
  marked_counted binary.Either left right one other above =
      within (chosen_counted left.weight one (constant_still (pos 1)) (truth_compares right.weight other)) refl (omega arith)
  marked_counted mark left right one other above = within (joined one (joined above (around_counted l depth 2 (line_counted mark)))) refl (omega arith)

module _ (objects : List Object) (l : Layout) where
  pub convert_still : (width : Width) (shown : Bool) (depth : ℕ) → Counted (convert_code objects l width shown depth) 0 0
  convert_still W32 shown depth = none
  convert_still W16 true depth = none
  convert_still W16 false depth = narrow_still l depth

  read_still : (target : IrTarget) (depth : ℕ) → Counted (read_code objects l target depth) 0 0
  read_still (Variable n) depth = behind_still (load_still (stack_register depth) (l.slot n) (stack_kept depth)) (finish_still l depth)
  read_still target depth = none

  mutual
    pub expression_counted : (e : IrTree) (depth : ℕ) → Counted (expression_code objects l e depth) 0 (4 * constructs_of e)
    expression_counted (Constant value) depth = constant_still l depth value
    expression_counted (Read target) depth = within (read_still target depth) refl (omega arith)
    expression_counted (Operate site kind operands weight) depth =
        before_still (operands_counted (widths_of kind) operands depth) (site_still l depth (operand_count kind) site kind)
    expression_counted (Convert cast width part) depth = before_still (expression_counted part depth) (convert_still width (fits_sixteen objects part) depth)
    expression_counted (Not part) depth =
        let line = one_compares (instr.Sltiu (stack_register depth) (operand_register depth 0) (pos 1)) (stack_kept depth) in
        within (joined (expression_counted part depth) (around_counted l depth 1 line)) refl (omega arith)
    expression_counted (Invert part) depth =
        let ones = still (instr.Addi 5 0 (negsuc 0)) refl refl in
        let less = still (instr.Sub (stack_register depth) 5 (operand_register depth 0)) (stack_kept depth) refl in
        before_still (expression_counted part depth) (around_counted l depth 1 (behind_still ones less))
    expression_counted (Binary mark left right) depth =
        let first : Operand = record { code = expression_code objects l left; weight = weight_of left } in
        let second : Operand = record { code = expression_code objects l right; weight = weight_of right } in
        within (marked_counted l depth mark first second (expression_counted left depth) (expression_counted right depth) (expression_counted right (depth + 1))) refl (omega arith)
    expression_counted (Choose cond this other) depth =
        let one = before_still (expression_counted this depth) (flush_still (weight_of this)) in
        let two = before_still (expression_counted other depth) (flush_still (weight_of other)) in
        within (chosen_counted l depth (weight_of cond) (expression_counted cond depth) one two) refl (omega arith)
    expression_counted (ReadFlag word) depth = behind_still (still (instr.Addi (stack_register depth) 27 (pos 0)) (stack_kept depth) refl) (finish_still l depth)
    expression_counted e depth = within none refl (omega arith)

    pub operands_counted : (widths : List Width) (operands : IrTrees) (depth : ℕ) → Counted (operands_code objects l widths operands depth) 0 (4 * constructs_in operands)
    operands_counted widths end depth = none
    operands_counted widths (more first rest) depth =
        let one = before_still (expression_counted first depth) (convert_still (first_width widths) (fits_sixteen objects first) depth) in
        within (joined one (operands_counted (other_widths widths) rest (depth + 1))) refl (omega arith)
