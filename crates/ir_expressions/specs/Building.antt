-- What is looked up, as the code has it at hand, and what is asked of the objects.
use Rattle.std.specs.Prelude.{ℕ, ◌<◌, List}
use Rattle.operator_meaning.specs.declared.object.Object.{Object}
use Rattle.source_runs.specs.declared.shape.Shape.{Shape}
use Rattle.source_runs.specs.Shapes.{shape_of}
use Rattle.source_trees.specs.Expressions.{TreeSetting}
use Rattle.ir_expressions.specs.declared.build.Build.{Build}

abbrev pub setting : Build → TreeSetting
setting build = record { objects = build.objects.now; table = build.table; numbers = build.numbers.now }

-- one more than each dimension has 32 bits, too
pub record IsShort (shape : Shape) : Type 0 where
  pub rows : shape.rows < 4294967295
  pub columns : shape.columns < 4294967295

-- the objects of a source, of which all together have at most 1,048,576 bytes
pub record AreShort (objects : List Object) : Type 0 where
  pub each : (number : ℕ) → IsShort (shape_of objects number)
