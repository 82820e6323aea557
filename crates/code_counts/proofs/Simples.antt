-- A simple part writes Overflow where it is an assignment to it, and an object that starts does not.
use Rattle.std.proofs.Common.{ℕ, zero, suc, ◌+◌, ◌*◌, ◌≤◌, ◌==◌, pos, Bool, true, false, if◌then◌else◌, List, ◌∷◌, refl, arith}
use Rattle.std.specs.Prelude.{Option, Some, None, slice_get}
use Rattle.c_tree.specs.declared.simple.AssignMark.{AssignMark}
use Rattle.c_tree.specs.declared.simple.AssignMark.TheVariants as assign
use Rattle.operator_meaning.specs.declared.object.Object.{Object}
use Rattle.operator_meaning.specs.declared.object.Storage.{Storage}
use Rattle.operator_meaning.specs.declared.object.Storage.TheVariants.{Static}
use Rattle.rv_encode.specs.declared.instruction.Instr.TheVariants as instr
use Rattle.source_runs.specs.Shapes.{shape_of}
use Rattle.typed_meaning.specs.Expressions.{site_at}
use Rattle.typed_meaning.specs.Statements.{step_mark}
use Rattle.ir_arena.specs.Tree.{IrTree, IrTarget, IrTrees, Constant, Operate, Write, Step, WriteFlag, Out, Start, Variable, end, more}
use Rattle.code_stacks.specs.Places.{Layout}
use Rattle.expression_code.specs.Code.{fits_sixteen}
use Rattle.simple_code.specs.Code.{assigned_code, computed, simple_code, stepped_by, value_register, written_by}
use Rattle.simple_code.specs.Starts.{opened_code, opening_code, opening_number, start_code}
use Rattle.statement_code.specs.Blocks.{Opening, object_of, openings_code, openings_of, value_of}
use Rattle.code_counts.specs.Constructs.{constructs_in, constructs_of, constructs_of_target, overflow_writes_of_simple}
use Rattle.code_counts.proofs.Counted.{Counted, before_still, behind_still, copied, joined, none, still, within}
use Rattle.code_counts.proofs.Expressions.{convert_still, expression_counted}
use Rattle.code_counts.proofs.Pieces.{store_still}

-- what is assigned has no more constructs than the assignment
computed_constructs : (target : IrTarget) (mark : AssignMark) (site : ℕ) (value : IrTree) → constructs_of (computed target mark site value) ≤ constructs_of_target target + constructs_of value
computed_constructs target assign.Plain site value = omega arith
computed_constructs target mark site value = omega arith

-- nor has the value of a start more than the start
value_constructs : (start : IrTree) → constructs_of (value_of start) ≤ constructs_of start
value_constructs (Start object value) = omega arith
value_constructs start = omega arith

module _ (objects : List Object) (l : Layout) where
  -- ---- assignments

  assigned_counted : (target : IrTarget) (value : IrTree) → Counted (assigned_code objects l target value) 0 (4 * constructs_of value)
  assigned_counted (Variable n) value =
      let rest = behind_still (convert_still objects l (shape_of objects n).width (fits_sixteen objects value) 0) (store_still value_register (l.slot n)) in
      before_still (expression_counted objects l value 0) rest
  assigned_counted target value = within none refl (omega arith)

  pub simple_counted : (part : IrTree) → Counted (simple_code objects l part) (overflow_writes_of_simple part) (4 * constructs_of part)
  simple_counted (Write target mark width site value) =
      within (assigned_counted target (written_by target mark site value)) refl (omega (arith, computed_constructs target mark (site_at site) value))
  simple_counted (Step target up width site) =
      within (assigned_counted target (stepped_by target up site)) refl (omega (arith, computed_constructs target (step_mark up) site (Constant (pos 1))))
  simple_counted (WriteFlag value) = within (joined (expression_counted objects l value 0) copied) refl (omega arith)
  simple_counted (Out value) =
      let call = behind_still (still (instr.Addi 10 value_register (pos 0)) refl refl) (behind_still (still (instr.Addi 17 0 (pos 3)) refl refl) (still instr.Ecall refl refl)) in
      before_still (expression_counted objects l value 0) call
  simple_counted (Operate site kind operands weight) = expression_counted objects l (Operate site kind operands weight) 0
  simple_counted part = within none refl (omega arith)

  -- ---- objects that start

  opened_counted : (storage : Storage) (n : ℕ) (object : Object) → Counted (opened_code objects l storage n object) 0 0
  opened_counted Static n object = none
  opened_counted storage n object = assigned_counted (Variable n) (Constant (opening_number object))

  none_starts : (n : ℕ) → Counted (start_code objects l n None) 0 0
  none_starts n = by_option (slice_get objects n)
    where
      by_option : (object : Option Object) → Counted (opening_code objects l n object) 0 0
      by_option None = none
      by_option (Some object) = opened_counted object.storage n object

  either_opens : (named : Bool) (one other : List Opening) {most : ℕ} → Counted (openings_code objects l one) 0 most → Counted (openings_code objects l other) 0 most
      → Counted (openings_code objects l (if named then one else other)) 0 most
  either_opens true one other counted as_well = counted
  either_opens false one other counted as_well = as_well

  pub openings_counted : (count object : ℕ) (starts : IrTrees) → Counted (openings_code objects l (openings_of count object starts)) 0 (4 * constructs_in starts)
  openings_counted zero object starts = within none refl (omega arith)
  openings_counted (suc count) object end = behind_still (none_starts object) (openings_counted count (object + 1) end)
  openings_counted (suc count) object (more start rest) =
      let value = value_of start in
      let named = openings_of count (object + 1) rest in
      let all = openings_of count (object + 1) (more start rest) in
      let one = joined (assigned_counted (Variable object) value) (openings_counted count (object + 1) rest) in
      either_opens (object_of start == object) (record { object = object; value = Some value } ∷ named) (record { object = object; value = None } ∷ all)
      (within one refl (omega (arith, value_constructs start)))
      (behind_still (none_starts object) (openings_counted count (object + 1) (more start rest)))
