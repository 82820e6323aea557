-- The code of an expression has at most the words that it may cost.
use Rattle.std.proofs.Common.{ℕ, ◌+◌, ◌*◌, ◌≤◌, ℤ, pos, Bool, true, false, List, [], ◌∷◌, ◌++◌, length, length-append, lit≤, arith}
use Rattle.sat_base.specs.declared.width.Width.{Width}
use Rattle.sat_base.specs.declared.width.Width.TheVariants.{W16, W32}
use Rattle.c_tree.specs.declared.expression.BinaryMark.{BinaryMark}
use Rattle.c_tree.specs.declared.expression.BinaryMark.TheVariants as binary
use Rattle.operator_meaning.specs.declared.object.Object.{Object}
use Rattle.operator_meaning.specs.declared.site.SiteKind.{SiteKind}
use Rattle.code_lines.specs.declared.word.Word.{Word}
use Rattle.ir_arena.specs.Costs.{conversion_words, cost_of, costs_of, mark_words}
use Rattle.ir_arena.specs.Tree.{IrTree, IrTarget, IrTrees, Constant, Read, Operate, Convert, Not, Invert, Binary, Choose, ReadFlag, Variable, end, more}
use Rattle.code_lines.specs.Pieces.{number_code, flush_code}
use Rattle.code_jumps.specs.declared.branch.Test.TheVariants.{Unequal}
use Rattle.code_jumps.specs.Jumps.{is_near, jump_where, reach_of}
use Rattle.code_memory.specs.Memory.{load_code}
use Rattle.code_stacks.specs.Places.{Layout, stack_register}
use Rattle.code_stacks.specs.Operands.{operand_register, fetches, finish_code}
use Rattle.operator_lowering.specs.Sites.{operand_count}
use Rattle.expression_code.specs.Code.{Operand, around, binary_line, chosen_code, constant_code, convert_code, counted_code, expression_code, fits_sixteen, invert_line, marked_code, narrow_line, not_line, operands_code, other_widths, over_code, pass_code, read_code, site_code, truth_code, truth_line, weight_of, widths_of}
use Rattle.code_costs.proofs.Pieces.{around_short, fetch_short, finish_short, flush_short, load_short, number_short, past_short, where_short}
use Rattle.code_costs.proofs.Sites.{site_fits}

module _ (l : Layout) (depth : ℕ) where
  -- ---- values

  pub constant_short : (value : ℤ) → length (constant_code l value depth) ≤ 4
  constant_short value = omega (arith, number_short (stack_register depth) value, finish_short l depth, length-append (number_code (stack_register depth) value) (finish_code l depth))

  narrow_short : length (around l depth 1 (narrow_line depth)) ≤ conversion_words
  narrow_short =
      let words = narrow_line depth in
      omega (arith, fetch_short l depth 0, finish_short l depth, length-append (fetches l depth 1) (words ++ finish_code l depth), length-append words (finish_code l depth))

  -- ---- choices

  over_short : (weight words : ℕ) → length (over_code l depth weight words) ≤ 10
  over_short weight words =
      let jump = jump_where (reach_of words) false Unequal (operand_register depth 0) 0 (pos words) in
      omega (
        arith,
        fetch_short l depth 0,
        flush_short weight,
        where_short (reach_of words) false Unequal (operand_register depth 0) 0 (pos words),
        length-append (fetches l depth 1) (flush_code weight ++ jump),
        length-append (flush_code weight) jump,
      )

  chosen_short : (weight : ℕ) (value this other : List Word) → length (chosen_code l depth weight value this other) ≤ length value + length this + length other + 12
  chosen_short weight value this other =
      let pass = pass_code (length other) in
      let over = over_code l depth weight (length (this ++ pass)) in
      omega (
        arith,
        over_short weight (length (this ++ pass)),
        past_short (is_near (length other)) (pos (length other)),
        length-append value (over ++ ((this ++ pass) ++ other)),
        length-append over ((this ++ pass) ++ other),
        length-append (this ++ pass) other,
        length-append this pass,
      )

  counted_short : (value : List Word) (weight : ℕ) → length (counted_code value weight) ≤ length value + 5
  counted_short value weight = omega (arith, flush_short weight, length-append value (flush_code weight))

  truth_short : (value : List Word) (weight : ℕ) → length (truth_code l depth value weight) ≤ length value + 14
  truth_short value weight =
      omega (arith, counted_short value weight, around_short l depth 1 (truth_line depth), length-append (counted_code value weight) (around l depth 1 (truth_line depth)))

  -- ---- marks

  line_short : (mark : BinaryMark) → length (binary_line mark depth) ≤ 2
  line_short binary.Eq = lit≤ tt
  line_short mark = lit≤ tt

  both_short : (mark : BinaryMark) (left right : List Word) → length (left ++ (right ++ around l depth 2 (binary_line mark depth))) ≤ mark_words + length left + length right
  both_short mark left right =
      let words = around l depth 2 (binary_line mark depth) in
      omega (arith, line_short mark, around_short l depth 2 (binary_line mark depth), length-append left (right ++ words), length-append right words)

  pub marked_short : (mark : BinaryMark) (left right : Operand) (most most_right : ℕ) → length (left.code depth) ≤ most → length (right.code depth) ≤ most_right → length (right.code (depth + 1)) ≤ most_right
      → length (marked_code l mark depth left right) ≤ mark_words + most + most_right
  marked_short binary.Both left right most most_right few few_right few_above =
      let this = truth_code l depth (right.code depth) right.weight in
      omega (arith, few, few_right, truth_short (right.code depth) right.weight, constant_short (pos 0), chosen_short left.weight (left.code depth) this (constant_code l (pos 0) depth))
  marked_short binary.Either left right most most_right few few_right few_above =
      let other = truth_code l depth (right.code depth) right.weight in
      omega (arith, few, few_right, truth_short (right.code depth) right.weight, constant_short (pos 1), chosen_short left.weight (left.code depth) (constant_code l (pos 1) depth) other)
  marked_short mark left right most most_right few few_right few_above = omega (arith, few, few_above, both_short mark (left.code depth) (right.code (depth + 1)))

module _ (objects : List Object) (l : Layout) where
  abbrev code_of : IrTree → (depth : ℕ) → List Word
  code_of = expression_code objects l

  pub convert_short : (width : Width) (shown : Bool) (depth : ℕ) → length (convert_code objects l width shown depth) ≤ conversion_words
  convert_short W32 shown depth = lit≤ tt
  convert_short W16 true depth = lit≤ tt
  convert_short W16 false depth = narrow_short l depth

  read_short : (target : IrTarget) (depth : ℕ) → length (read_code objects l target depth) ≤ 4
  read_short (Variable n) depth = omega (arith, load_short (stack_register depth) (l.slot n), finish_short l depth, length-append (load_code (stack_register depth) (l.slot n)) (finish_code l depth))
  read_short target depth = lit≤ tt

  -- a value of which a line makes another
  line_after : (value : List Word) (depth : ℕ) (words : List Word) → length (value ++ around l depth 1 words) ≤ length value + length words + 8
  line_after value depth words = omega (arith, around_short l depth 1 words, length-append value (around l depth 1 words))

  -- ---- operands

  -- each place of an operand may convert it
  one_operand : (widths : List Width) (first : IrTree) (rest : IrTrees) (depth : ℕ) → length (code_of first depth) ≤ cost_of first
      → length (operands_code objects l (other_widths widths) rest (depth + 1)) ≤ costs_of rest + length (other_widths widths) * conversion_words
      → length (operands_code objects l widths (more first rest) depth) ≤ costs_of (more first rest) + length widths * conversion_words
  one_operand [] first rest depth few others =
      let xs = code_of first depth in
      omega (arith, few, others, length-append (xs ++ []) (operands_code objects l [] rest (depth + 1)), length-append xs [])
  one_operand (width ∷ widths) first rest depth few others =
      let xs = code_of first depth in
      let convert = convert_code objects l width (fits_sixteen objects first) depth in
      omega (arith, few, others, convert_short width (fits_sixteen objects first) depth, length-append (xs ++ convert) (operands_code objects l widths rest (depth + 1)), length-append xs convert)

  -- the code of a site, and of its operands
  site_after : (site : ℕ) (kind : SiteKind) (operands : IrTrees) (weight depth : ℕ)
      → length (operands_code objects l (widths_of kind) operands depth) ≤ costs_of operands + length (widths_of kind) * conversion_words
      → length (code_of (Operate site kind operands weight) depth) ≤ cost_of (Operate site kind operands weight)
  site_after site kind operands weight depth few =
      omega (arith, few, site_fits l depth (operand_count kind) site kind, length-append (operands_code objects l (widths_of kind) operands depth) (site_code l depth (operand_count kind) site kind))

  -- ---- the whole

  mutual
    pub expression_short : (e : IrTree) (depth : ℕ) → length (expression_code objects l e depth) ≤ cost_of e
    expression_short (Constant value) depth = omega (arith, constant_short l depth value)
    expression_short (Read target) depth = omega (arith, read_short target depth)
    expression_short (Operate site kind operands weight) depth = site_after site kind operands weight depth (operands_short (widths_of kind) operands depth)
    expression_short (Convert cast width part) depth =
        let convert = convert_code objects l width (fits_sixteen objects part) depth in
        omega (arith, expression_short part depth, convert_short width (fits_sixteen objects part) depth, length-append (code_of part depth) convert)
    expression_short (Not part) depth = omega (arith, expression_short part depth, line_after (code_of part depth) depth (not_line depth))
    expression_short (Invert part) depth = omega (arith, expression_short part depth, line_after (code_of part depth) depth (invert_line depth))
    expression_short (Binary mark left right) depth =
        marked_short l depth mark (record { code = code_of left; weight = weight_of left }) (record { code = code_of right; weight = weight_of right }) (cost_of left) (cost_of right)
        (expression_short left depth) (expression_short right depth) (expression_short right (depth + 1))
    expression_short (Choose cond this other) depth =
        let one = counted_code (code_of this depth) (weight_of this) in
        let two = counted_code (code_of other depth) (weight_of other) in
        omega (
          arith,
          expression_short cond depth,
          expression_short this depth,
          expression_short other depth,
          counted_short l depth (code_of this depth) (weight_of this),
          counted_short l depth (code_of other depth) (weight_of other),
          chosen_short l depth (weight_of cond) (code_of cond depth) one two,
        )
    expression_short (ReadFlag word) depth = omega (arith, finish_short l depth)
    expression_short e depth = omega arith

    pub operands_short : (widths : List Width) (operands : IrTrees) (depth : ℕ) → length (operands_code objects l widths operands depth) ≤ costs_of operands + length widths * conversion_words
    operands_short widths end depth = omega arith
    operands_short widths (more first rest) depth = one_operand widths first rest depth (expression_short first depth) (operands_short (other_widths widths) rest (depth + 1))
