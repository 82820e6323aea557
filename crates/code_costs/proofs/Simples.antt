-- The code of a simple part has at most the words that it may cost, and so has the code by which an object starts.
use Rattle.std.proofs.Common.{ℕ, zero, suc, ◌+◌, ◌*◌, ◌≤◌, ◌==◌, pos, Bool, true, false, if◌then◌else◌, List, [], ◌∷◌, ◌++◌, length, length-append, arith}
use Rattle.std.specs.Prelude.{Option, Some, None, slice_get}
use Rattle.c_tree.specs.declared.simple.AssignMark.{AssignMark}
use Rattle.c_tree.specs.declared.simple.AssignMark.TheVariants as assign
use Rattle.operator_meaning.specs.declared.object.Object.{Object}
use Rattle.operator_meaning.specs.declared.object.Storage.{Storage}
use Rattle.operator_meaning.specs.declared.object.Storage.TheVariants.{Static}
use Rattle.operator_meaning.specs.declared.site.SiteKind.{SiteKind}
use Rattle.operator_meaning.specs.declared.site.SiteKind.TheVariants as kind
use Rattle.source_runs.specs.Shapes.{shape_of}
use Rattle.typed_meaning.specs.Expressions.{site_at}
use Rattle.typed_meaning.specs.Statements.{step_mark}
use Rattle.code_lines.specs.declared.word.Word.{Word}
use Rattle.code_lines.specs.Own.{Addi, Ecall}
use Rattle.ir_arena.specs.Costs.{cost_of, cost_of_target, costs_of, object_words}
use Rattle.ir_arena.specs.Tree.{IrTree, IrTarget, IrTrees, Constant, Read, Operate, Write, Step, WriteFlag, Out, Start, Variable, end, more}
use Rattle.code_memory.specs.Memory.{store_code}
use Rattle.code_stacks.specs.Places.{Layout}
use Rattle.expression_code.specs.Code.{convert_code, expression_code, fits_sixteen, operands_code, site_code}
use Rattle.simple_code.specs.Code.{assigned_code, computed, out_line, simple_code, stepped_by, value_register, written_by}
use Rattle.simple_code.specs.Starts.{opened_code, opening_code, opening_number, start_code}
use Rattle.statement_code.specs.Blocks.{Opening, object_of, openings_code, openings_of, value_of}
use Rattle.code_costs.proofs.Expressions.{convert_short, expression_short, operands_short}
use Rattle.code_costs.proofs.Pieces.{store_short}
use Rattle.code_costs.proofs.Sites.{site_short}

module _ (objects : List Object) (l : Layout) where
  abbrev value_code : IrTree → List Word
  value_code value = expression_code objects l value 0

  -- ---- assignments

  assigned_short : (target : IrTarget) (value : IrTree) (most : ℕ) → length (value_code value) ≤ most → length (assigned_code objects l target value) ≤ most + 10
  assigned_short (Variable n) value most few =
      let convert = convert_code objects l (shape_of objects n).width (fits_sixteen objects value) 0 in
      let store = store_code value_register (l.slot n) in
      omega (
        arith,
        few,
        convert_short objects l (shape_of objects n).width (fits_sixteen objects value) 0,
        store_short value_register (l.slot n),
        length-append (value_code value) (convert ++ store),
        length-append convert store,
      )
  assigned_short target value most few = omega arith

  -- a sum, a difference or a product has fewer words than an operator
  plain_short : (target : IrTarget) (kind : SiteKind) (site : ℕ) (value : IrTree) (most : ℕ) → length (site_code l 0 2 site kind) ≤ most
      → length (operands_code objects l [] (more (Read target) (more value end)) 0 ++ site_code l 0 2 site kind) ≤ cost_of (Read target) + cost_of value + most
  plain_short target kind site value most few =
      let operands = more (Read target) (more value end) in
      omega (arith, few, operands_short objects l [] operands 0, length-append (operands_code objects l [] operands 0) (site_code l 0 2 site kind))

  computed_short : (target : IrTarget) (mark : AssignMark) (site : ℕ) (value : IrTree) → length (value_code (computed target mark site value)) ≤ cost_of_target target + cost_of value + 80
  computed_short target assign.Plain site value = omega (arith, expression_short objects l value 0)
  computed_short target assign.Plus site value = omega (arith, plain_short target kind.Sum site value 24 (site_short l 0 2 site kind.Sum))
  computed_short target assign.Minus site value = omega (arith, plain_short target kind.Difference site value 24 (site_short l 0 2 site kind.Difference))
  computed_short target assign.Times site value = omega (arith, plain_short target kind.Product site value 24 (site_short l 0 2 site kind.Product))
  computed_short target assign.And site value = omega (arith, expression_short objects l (computed target assign.And site value) 0)
  computed_short target assign.Or site value = omega (arith, expression_short objects l (computed target assign.Or site value) 0)
  computed_short target assign.Xor site value = omega (arith, expression_short objects l (computed target assign.Xor site value) 0)

  -- ---- simple parts

  pub simple_short : (part : IrTree) → length (simple_code objects l part) ≤ cost_of part
  simple_short (Write target mark width site value) =
      omega (arith, assigned_short target (written_by target mark site value) (cost_of_target target + cost_of value + 80) (computed_short target mark (site_at site) value))
  simple_short (Step target up width site) =
      omega (arith, assigned_short target (stepped_by target up site) (cost_of_target target + cost_of (Constant (pos 1)) + 80) (computed_short target (step_mark up) site (Constant (pos 1))))
  simple_short (WriteFlag value) = omega (arith, expression_short objects l value 0, length-append (value_code value) (Addi 27 value_register (pos 0) ∷ []))
  simple_short (Out value) = omega (arith, expression_short objects l value 0, length-append (value_code value) (out_line ++ Ecall ∷ []))
  simple_short (Operate site kind operands weight) = expression_short objects l (Operate site kind operands weight) 0
  simple_short part = omega arith

  -- ---- objects that start

  value_starts : (n : ℕ) (value : IrTree) → length (assigned_code objects l (Variable n) value) ≤ object_words + cost_of value
  value_starts n value = omega (arith, assigned_short (Variable n) value (cost_of value) (expression_short objects l value 0))

  opened_short : (storage : Storage) (n : ℕ) (object : Object) → length (opened_code objects l storage n object) ≤ object_words
  opened_short Static n object = omega arith
  opened_short storage n object = omega (arith, assigned_short (Variable n) (Constant (opening_number object)) 16 (expression_short objects l (Constant (opening_number object)) 0))

  none_starts : (n : ℕ) → length (start_code objects l n None) ≤ object_words
  none_starts n = by_option (slice_get objects n)
    where
      by_option : (object : Option Object) → length (opening_code objects l n object) ≤ object_words
      by_option None = omega arith
      by_option (Some object) = opened_short object.storage n object

  -- the value of a start costs no more than the start
  value_costs : (start : IrTree) → cost_of (value_of start) ≤ cost_of start
  value_costs (Start object value) = omega arith
  value_costs start = omega arith

  -- one more object starts
  next_short : (n : ℕ) (start : Option IrTree) (rest : List Opening) (most others : ℕ) → length (start_code objects l n start) ≤ most → length (openings_code objects l rest) ≤ others
      → length (openings_code objects l (record { object = n; value = start } ∷ rest)) ≤ most + others
  next_short n start rest most others few less = omega (arith, few, less, length-append (start_code objects l n start) (openings_code objects l rest))

  either_short : (named : Bool) (one other : List Opening) (most : ℕ) → length (openings_code objects l one) ≤ most → length (openings_code objects l other) ≤ most
      → length (openings_code objects l (if named then one else other)) ≤ most
  either_short true one other most few less = few
  either_short false one other most few less = less

  pub openings_short : (count object : ℕ) (starts : IrTrees) → length (openings_code objects l (openings_of count object starts)) ≤ count * object_words + costs_of starts
  openings_short zero object starts = omega arith
  openings_short (suc count) object end =
      omega (arith, next_short object None (openings_of count (object + 1) end) object_words (count * object_words + costs_of end) (none_starts object) (openings_short count (object + 1) end))
  openings_short (suc count) object (more start rest) =
      let value = value_of start in
      let after = openings_of count (object + 1) rest in
      let all = openings_of count (object + 1) (more start rest) in
      either_short (object_of start == object) (record { object = object; value = Some value } ∷ after) (record { object = object; value = None } ∷ all) (suc count * object_words + costs_of (more start rest))
      (omega (arith, value_costs start, next_short object (Some value) after (object_words + cost_of value) (count * object_words + costs_of rest) (value_starts object value) (openings_short count (object + 1) rest)))
      (omega (arith, next_short object None all object_words (count * object_words + costs_of (more start rest)) (none_starts object) (openings_short count (object + 1) (more start rest))))
