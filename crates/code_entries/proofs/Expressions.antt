-- The code of an expression is made of words of its own and of the templates of its sites.
use Rattle.std.proofs.Common.{ℕ, ◌+◌, ℤ, pos, Bool, true, false, List, [], ◌∷◌, ◌++◌, length, refl, ap, append-nil}
use Rattle.sat_base.specs.declared.width.Width.{Width}
use Rattle.sat_base.specs.declared.width.Width.TheVariants.{W16, W32}
use Rattle.c_tree.specs.declared.expression.BinaryMark.{BinaryMark}
use Rattle.c_tree.specs.declared.expression.BinaryMark.TheVariants as binary
use Rattle.operator_meaning.specs.declared.object.Object.{Object}
use Rattle.operator_meaning.specs.declared.site.SiteKind.{SiteKind}
use Rattle.code_lines.specs.declared.word.Word.{Word}
use Rattle.code_lines.specs.Own.{Addi}
use Rattle.ir_arena.specs.Tree.{IrTree, IrTarget, IrTrees, Constant, Read, Operate, Convert, Not, Invert, Binary, Choose, ReadFlag, Variable, end, more}
use Rattle.code_jumps.specs.declared.branch.Test.TheVariants.{Unequal}
use Rattle.code_jumps.specs.Jumps.{is_near, reach_of}
use Rattle.code_stacks.specs.Places.{Layout, stack_register}
use Rattle.code_stacks.specs.Operands.{operand_register}
use Rattle.operator_lowering.specs.Sites.{operand_count}
use Rattle.expression_code.specs.Code.{Operand, binary_line, chosen_code, constant_code, convert_code, expression_code, first_width, fits_sixteen, invert_line, marked_code, narrow_line, not_line, operands_code, other_widths, over_code, pass_code, read_code, site_code, site_registers, truth_code, truth_line, weight_of, widths_of}
use Rattle.code_entries.specs.Entries.{entries_of_operands, entries_of_value}
use Rattle.code_pieces.specs.declared.piece.Entry.{Entry}
use Rattle.code_entries.specs.Pieces.{IsMade}
use Rattle.code_entries.proofs.Made.{before_plain, joined, listed, none, plain, template_made}
use Rattle.code_entries.proofs.Pieces.{around_made, fetches_plain, finish_plain, flush_plain, load_plain, number_plain, past_plain, where_plain}

module _ (l : Layout) (depth : ℕ) where
  -- ---- values

  constant_plain : (value : ℤ) → IsMade (constant_code l value depth) []
  constant_plain value = joined (number_plain (stack_register depth) value) (finish_plain l depth)

  site_made : (count site : ℕ) (kind : SiteKind) → IsMade (site_code l depth count site kind) (record { site = site; kind = kind } ∷ [])
  site_made count site kind = around_made l depth count (template_made (record { site = site; kind = kind }) (site_registers depth count))

  -- ---- choices

  over_plain : (weight words : ℕ) → IsMade (over_code l depth weight words) []
  over_plain weight words = joined (fetches_plain l depth 1) (joined (flush_plain weight) (where_plain (reach_of words) false Unequal (operand_register depth 0) 0 (pos words)))

  chosen_made : (weight : ℕ) {value this other : List Word} {first second third : List Entry} → IsMade value first → IsMade this second → IsMade other third
      → IsMade (chosen_code l depth weight value this other) (first ++ (second ++ third))
  chosen_made weight {value} {this} {other} one two three =
      let over = over_plain weight (length (this ++ pass_code (length other))) in
      let pass = past_plain (is_near (length other)) (pos (length other)) in
      joined one (joined over (joined (before_plain two pass) three))

  truth_made : (weight : ℕ) {value : List Word} {entries : List Entry} → IsMade value entries → IsMade (truth_code l depth value weight) entries
  truth_made weight one = before_plain (before_plain one (flush_plain weight)) (around_made l depth 1 (plain (truth_line depth) refl))

  -- ---- marks

  line_plain : (mark : BinaryMark) → IsMade (binary_line mark depth) []
  line_plain binary.Eq = plain (binary_line binary.Eq depth) refl
  line_plain mark = plain (binary_line mark depth) refl

  marked_made : (mark : BinaryMark) (left right : Operand) {first second : List Entry} → IsMade (left.code depth) first → IsMade (right.code depth) second → IsMade (right.code (depth + 1)) second
      → IsMade (marked_code l mark depth left right) (first ++ second)
  marked_made binary.Both left right {first} {second} one other above =
      listed (chosen_made left.weight one (truth_made right.weight other) (constant_plain (pos 0))) (ap (λ (rest : List Entry). first ++ rest) (append-nil second))
  marked_made binary.Either left right one other above = chosen_made left.weight one (constant_plain (pos 1)) (truth_made right.weight other)
  marked_made mark left right one other above = joined one (before_plain above (around_made l depth 2 (line_plain mark)))

module _ (objects : List Object) (l : Layout) where
  pub convert_plain : (width : Width) (shown : Bool) (depth : ℕ) → IsMade (convert_code objects l width shown depth) []
  convert_plain W32 shown depth = none
  convert_plain W16 true depth = none
  convert_plain W16 false depth = around_made l depth 1 (plain (narrow_line depth) refl)

  read_plain : (target : IrTarget) (depth : ℕ) → IsMade (read_code objects l target depth) []
  read_plain (Variable n) depth = joined (load_plain (stack_register depth) (l.slot n)) (finish_plain l depth)
  read_plain target depth = none

  mutual
    pub expression_made : (e : IrTree) (depth : ℕ) → IsMade (expression_code objects l e depth) (entries_of_value e)
    expression_made (Constant value) depth = constant_plain l depth value
    expression_made (Read target) depth = read_plain target depth
    expression_made (Operate site kind operands weight) depth = joined (operands_made (widths_of kind) operands depth) (site_made l depth (operand_count kind) site kind)
    expression_made (Convert cast width part) depth = before_plain (expression_made part depth) (convert_plain width (fits_sixteen objects part) depth)
    expression_made (Not part) depth = before_plain (expression_made part depth) (around_made l depth 1 (plain (not_line depth) refl))
    expression_made (Invert part) depth = before_plain (expression_made part depth) (around_made l depth 1 (plain (invert_line depth) refl))
    expression_made (Binary mark left right) depth =
        let first : Operand = record { code = expression_code objects l left; weight = weight_of left } in
        let second : Operand = record { code = expression_code objects l right; weight = weight_of right } in
        marked_made l depth mark first second (expression_made left depth) (expression_made right depth) (expression_made right (depth + 1))
    expression_made (Choose cond this other) depth =
        let one = before_plain (expression_made this depth) (flush_plain (weight_of this)) in
        let two = before_plain (expression_made other depth) (flush_plain (weight_of other)) in
        chosen_made l depth (weight_of cond) (expression_made cond depth) one two
    expression_made (ReadFlag word) depth = joined (plain (Addi (stack_register depth) 27 (pos 0) ∷ []) refl) (finish_plain l depth)
    expression_made e depth = none

    operands_made : (widths : List Width) (operands : IrTrees) (depth : ℕ) → IsMade (operands_code objects l widths operands depth) (entries_of_operands operands)
    operands_made widths end depth = none
    operands_made widths (more first rest) depth =
        let one = before_plain (expression_made first depth) (convert_plain (first_width widths) (fits_sixteen objects first) depth) in
        joined one (operands_made (other_widths widths) rest (depth + 1))
