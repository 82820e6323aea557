-- The objects of a block, and the code by which they start.
use Rattle.std.specs.Prelude.{ℕ, suc, zero, ◌+◌, ◌==◌, if◌then◌else◌, List, [], ◌∷◌, ◌++◌, Option, Some, None}
use Rattle.operator_meaning.specs.declared.object.Object.{Object}
use Rattle.code_lines.specs.declared.word.Word.{Word}
use Rattle.ir_arena.specs.Tree.{IrTree, IrTrees, Start, end, more}
use Rattle.code_stacks.specs.Places.{Layout}
use Rattle.simple_code.specs.Starts.{start_code, weight_of_start, IsStart}

-- an object, and the value with which it starts, if it has one
pub record Opening : Type 0 where
  pub object : ℕ
  pub value : Option IrTree

-- the object that a start names, and its value
abbrev pub object_of : IrTree → ℕ
object_of (Start object value) = object
object_of tree = 0

abbrev pub value_of : IrTree → IrTree
value_of (Start object value) = value
value_of tree = tree

-- so many objects from this one on; those that have a value have their starts in the same order
abbrev pub openings_of : (count object : ℕ) → IrTrees → List Opening
openings_of zero object starts = []
openings_of (suc count) object end = record { object = object; value = None } ∷ openings_of count (object + 1) end
openings_of (suc count) object (more start rest) =
    if object_of start == object
    then record { object = object; value = Some (value_of start) } ∷ openings_of count (object + 1) rest
    else record { object = object; value = None } ∷ openings_of count (object + 1) (more start rest)

abbrev pub weight_of_opening : Opening → ℕ
weight_of_opening opening = weight_of_start opening.value

abbrev pub weight_of_openings : List Opening → ℕ
weight_of_openings [] = 0
weight_of_openings (first ∷ rest) = weight_of_opening first + weight_of_openings rest

module _ (objects : List Object) (l : Layout) where
  abbrev pub opening_code : Opening → List Word
  opening_code opening = start_code objects l opening.object opening.value

  abbrev pub openings_code : List Opening → List Word
  openings_code [] = []
  openings_code (first ∷ rest) = opening_code first ++ openings_code rest

  -- openings that have such code
  abbrev pub AreOpenings : List Opening → Type 0
  AreOpenings [] = Unit {0}
  AreOpenings (first ∷ rest) = IsStart objects l first.object first.value × AreOpenings rest
