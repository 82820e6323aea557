-- The code of a simple part has the template of what its mark computes, behind those of its value.
use Rattle.std.proofs.Common.{◌≡◌, ℕ, pos, List, [], ◌∷◌, ◌++◌, refl, sym, append-nil}
use Rattle.std.specs.Prelude.{Option, Some, None, slice_get}
use Rattle.c_tree.specs.declared.simple.AssignMark.{AssignMark}
use Rattle.c_tree.specs.declared.simple.AssignMark.TheVariants as assign
use Rattle.operator_meaning.specs.declared.object.Object.{Object}
use Rattle.operator_meaning.specs.declared.object.Storage.{Storage}
use Rattle.operator_meaning.specs.declared.object.Storage.TheVariants.{Static}
use Rattle.source_runs.specs.Shapes.{shape_of}
use Rattle.typed_meaning.specs.Expressions.{site_at}
use Rattle.typed_meaning.specs.Statements.{step_mark}
use Rattle.code_lines.specs.Own.{Addi, Ecall}
use Rattle.ir_arena.specs.Tree.{IrTree, Constant, Operate, Write, Step, WriteFlag, Out, Variable}
use Rattle.code_stacks.specs.Places.{Layout}
use Rattle.expression_code.specs.Code.{fits_sixteen}
use Rattle.simple_code.specs.Code.{assigned_code, computed, out_line, simple_code, stepped_by, value_register, written_by}
use Rattle.simple_code.specs.Starts.{opened_code, opening_code, opening_number, start_code}
use Rattle.statement_code.specs.Blocks.{Opening, openings_code}
use Rattle.code_entries.specs.Entries.{entries_of_mark, entries_of_openings, entries_of_simple, entries_of_start, entries_of_value}
use Rattle.code_entries.specs.Pieces.{IsMade}
use Rattle.code_entries.proofs.Made.{before_plain, joined, listed, none, plain}
use Rattle.code_entries.proofs.Expressions.{convert_plain, expression_made}
use Rattle.code_entries.proofs.Pieces.{store_plain}

computed_entries : (n : ℕ) (mark : AssignMark) (site : ℕ) (value : IrTree) → entries_of_value (computed (Variable n) mark site value) ≡ entries_of_value value ++ entries_of_mark mark site
computed_entries n assign.Plus site value = rw (append-nil (entries_of_value value)) refl
computed_entries n assign.Minus site value = rw (append-nil (entries_of_value value)) refl
computed_entries n assign.Times site value = rw (append-nil (entries_of_value value)) refl
computed_entries n mark site value = sym (append-nil (entries_of_value value))

module _ (objects : List Object) (l : Layout) where
  -- ---- assignments

  assigned_made : (n : ℕ) (value : IrTree) → IsMade (assigned_code objects l (Variable n) value) (entries_of_value value)
  assigned_made n value =
      let rest = joined (convert_plain objects l (shape_of objects n).width (fits_sixteen objects value) 0) (store_plain value_register (l.slot n)) in
      before_plain (expression_made objects l value 0) rest

  pub simple_made : (part : IrTree) → IsMade (simple_code objects l part) (entries_of_simple part)
  simple_made (Write (Variable n) mark width site value) = listed (assigned_made n (written_by (Variable n) mark site value)) (computed_entries n mark (site_at site) value)
  simple_made (Write target mark width site value) = none
  simple_made (Step (Variable n) up width site) = listed (assigned_made n (stepped_by (Variable n) up site)) (computed_entries n (step_mark up) site (Constant (pos 1)))
  simple_made (Step target up width site) = none
  simple_made (WriteFlag value) = before_plain (expression_made objects l value 0) (plain (Addi 27 value_register (pos 0) ∷ []) refl)
  simple_made (Out value) = before_plain (expression_made objects l value 0) (plain (out_line ++ Ecall ∷ []) refl)
  simple_made (Operate site kind operands weight) = expression_made objects l (Operate site kind operands weight) 0
  simple_made part = none

  -- ---- objects that start

  opened_plain : (storage : Storage) (n : ℕ) (object : Object) → IsMade (opened_code objects l storage n object) []
  opened_plain Static n object = none
  opened_plain storage n object = assigned_made n (Constant (opening_number object))

  start_made : (n : ℕ) (start : Option IrTree) → IsMade (start_code objects l n start) (entries_of_start start)
  start_made n (Some value) = assigned_made n value
  start_made n None = by_option (slice_get objects n)
    where
      by_option : (object : Option Object) → IsMade (opening_code objects l n object) []
      by_option None = none
      by_option (Some object) = opened_plain object.storage n object

  pub openings_made : (openings : List Opening) → IsMade (openings_code objects l openings) (entries_of_openings openings)
  openings_made [] = none
  openings_made (first ∷ rest) = joined (start_made first.object first.value) (openings_made rest)
