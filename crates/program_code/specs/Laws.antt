-- When an image of a program runs as its tree does.
use Rattle.std.specs.Prelude.{◌≡◌, ℕ, ◌^◌, ◌<◌, Bool, true, List, [], length, slice_get, Option, Some, is_some}
use Rattle.operator_meaning.specs.declared.object.Object.{Object}
use Rattle.source_runs.specs.Steps.{opening_state}
use Rattle.ir_arena.specs.Tree.{IrWhole, TreeFunction}
use Rattle.tree_meaning.specs.Observed.{tree_observed, tree_trace}
use Rattle.image_format.specs.declared.image.Image.{Image}
use Rattle.image_format.specs.RunsAlike.{RunsAlike}
use Rattle.code_lines.specs.Words.{StandHere}
use Rattle.code_runs.specs.Laws.{code_of, EntersAlike}
use Rattle.code_stacks.specs.Places.{Layout, IsLaidOut}
use Rattle.code_stacks.specs.Agreement.{IsHeld}
use Rattle.expression_code.specs.Laws.{AreScalars}
use Rattle.statement_code.specs.Laws.{IsStatement, weight_of_statement}
use Rattle.program_code.specs.Code.{program_code}

-- the data memory has each variable as it is before the first step
pub record IsFirst (objects : List Object) (l : Layout) (memory : List ℕ) : Type 0 where
  pub size : length memory ≡ l.size
  pub variables : (n : ℕ) → l.is_variable n ≡ true → IsHeld objects l (opening_state objects []) memory n

-- `main` is a function without parameters, with a body over scalars
pub record IsProgram (tree : IrWhole) (l : Layout) (main : TreeFunction) : Type 0 where
  pub is : slice_get tree.functions tree.main ≡ Some main
  pub takes_nothing : main.params ≡ []
  pub scalars : AreScalars tree.objects l
  pub statement : IsStatement tree.objects l (is_some main.gives) main.body
  pub light : weight_of_statement main.body < 2 ^ 31

-- The image does what the tree does, and enters the sites that it evaluates.
abbrev pub ProgramsRunAlike : Type 0
ProgramsRunAlike = (tree : IrWhole) (l : Layout) (main : TreeFunction) (near : Bool) (image : Image) (begins : ℕ → Option ℕ)
    → IsLaidOut (code_of image begins l.is_wordless) l → IsProgram tree l main → IsFirst tree.objects l image.memory
    → StandHere (code_of image begins l.is_wordless) 0 (program_code tree.objects l near main.body)
    → RunsAlike (tree_observed tree) image × EntersAlike (tree_observed tree) (tree_trace tree) image begins l.is_wordless
