-- Which lawful trees are programs that code is emitted for.
use Rattle.std.specs.Prelude.{◌≡◌, ℕ, ◌≤◌, true, slice_get, Some}
use Rattle.operator_meaning.specs.declared.object.Object.{Object}
use Rattle.operator_meaning.specs.declared.object.Site.{Site}
use Rattle.ir_arena.specs.declared.ir.Ir.{Ir}
use Rattle.ir_arena.specs.Costs.{cost_of_whole}
use Rattle.ir_arena.specs.Placed.{whole_of}
use Rattle.ir_arena.specs.Tree.{IrWhole, TreeFunction}
use Rattle.lawful_sources.specs.Objects.{is_scalar}
use Rattle.lawful_ir.specs.Lawful.{IsLawfulTree}
use Rattle.code_stacks.specs.Places.{Layout}
use Rattle.expression_code.specs.Straight.{is_wordless}
use Rattle.program_code.specs.Laws.{IsProgram}
use Rattle.lawful_programs.specs.Form.{has_scalar_form, whole_has_numbers}
use Rattle.lawful_programs.specs.Heights.{height_of_statement}

-- the variables of a layout are the scalars of a tree, its sites without words are those of the tree, and its stack has
-- room for the values of `main`
pub record IsLayoutOf (tree : IrWhole) (l : Layout) : Type 0 where
  pub variables : (n : ℕ) (object : Object) → slice_get tree.objects n ≡ Some object → l.is_variable n ≡ is_scalar object
  pub wordless : (n : ℕ) (site : Site) → slice_get tree.sites n ≡ Some site → l.is_wordless n ≡ is_wordless site.kind
  pub room : 1 ≤ l.depth
  pub high : (main : TreeFunction) → slice_get tree.functions tree.main ≡ Some main → height_of_statement main.body ≤ l.depth

-- A lawful tree over scalars is a program, where its integers have 32 bits and it costs no more words than a jump reaches.
abbrev pub ScalarTreesArePrograms : Type 0
ScalarTreesArePrograms = (ir : Ir) (l : Layout) → IsLawfulTree ir → has_scalar_form (whole_of ir) ≡ true → whole_has_numbers (whole_of ir) ≡ true
    → cost_of_whole (whole_of ir) ≤ 16777216 → IsLayoutOf (whole_of ir) l → (main : TreeFunction) × IsProgram (whole_of ir) l main
