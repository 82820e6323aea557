-- The code by which the objects of a block start: as assignments do, but that a static object starts once, with the run.
use Rattle.std.specs.Prelude.{◌≡◌, ℕ, ◌≤◌, ℤ, pos, true, List, [], ◌∷◌, slice_get, Option, Some, None}
use Rattle.operator_meaning.specs.declared.object.Object.{Object}
use Rattle.operator_meaning.specs.declared.object.Storage.{Storage}
use Rattle.operator_meaning.specs.declared.object.Storage.TheVariants.{Static}
use Rattle.source_runs.specs.Shapes.{shape_of, opening_of}
use Rattle.source_runs.specs.State.{converted}
use Rattle.code_lines.specs.declared.word.Word.{Word}
use Rattle.ir_arena.specs.Tree.{IrTree, Constant, Variable}
use Rattle.code_stacks.specs.Places.{Layout}
use Rattle.expression_code.specs.Code.{weight_of}
use Rattle.expression_code.specs.Straight.{is_number, is_straight, height_of}
use Rattle.simple_code.specs.Code.{assigned_code}

-- the number with which a scalar starts that no value starts
abbrev first_of : List ℤ → ℤ
first_of [] = pos 0
first_of (x ∷ xs) = x

abbrev pub opening_number : Object → ℤ
opening_number object = first_of (opening_of object)

module _ (objects : List Object) (l : Layout) where
  abbrev pub opened_code : Storage → ℕ → Object → List Word
  opened_code Static n object = []
  opened_code storage n object = assigned_code objects l (Variable n) (Constant (opening_number object))

  abbrev pub opening_code : ℕ → Option Object → List Word
  opening_code n None = []
  opening_code n (Some object) = opened_code object.storage n object

  -- with the value that it has, if any
  abbrev pub start_code : ℕ → Option IrTree → List Word
  start_code n None = opening_code n (slice_get objects n)
  start_code n (Some value) = assigned_code objects l (Variable n) value

  -- ---- starts that have such code

  -- a scalar, whose one number has its width
  pub record IsNumbered (n : ℕ) (object : Object) : Type 0 where
    pub variable : l.is_variable n ≡ true
    pub number : is_number (opening_number object) ≡ true
    pub converts : opening_of object ≡ converted (shape_of objects n).width (opening_number object) ∷ []
    pub room : 1 ≤ l.depth

  abbrev pub IsOpened : Storage → ℕ → Object → Type 0
  IsOpened Static n object = Unit {0}
  IsOpened storage n object = IsNumbered n object

  abbrev pub IsOpening : ℕ → Option Object → Type 0
  IsOpening n None = Unit {0}
  IsOpening n (Some object) = IsOpened object.storage n object

  pub record IsStarted (n : ℕ) (value : IrTree) : Type 0 where
    pub variable : l.is_variable n ≡ true
    pub straight : is_straight l value ≡ true
    pub room : height_of value ≤ l.depth

  abbrev pub IsStart : ℕ → Option IrTree → Type 0
  IsStart n None = IsOpening n (slice_get objects n)
  IsStart n (Some value) = IsStarted n value

-- the weight by which the count lags behind
abbrev pub weight_of_start : Option IrTree → ℕ
weight_of_start None = 0
weight_of_start (Some value) = weight_of value
