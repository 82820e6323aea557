-- What is proved of reading declarations.
use Rattle.std.specs.Prelude.{ℕ, [], ◌∷◌}
use Rattle.c_tree.specs.declared.declaration.Objects.{Objects}
use Rattle.c_grammar.specs.Nodes as a
use Rattle.c_grammar.specs.Parts.{node}
use Rattle.right_reading.specs.ReadDeclarations.{objects_at}
use Rattle.right_reading.specs.Right.{Reads, always}
use Rattle.right_reading.specs.RightExpressions.{RightExpressions}

-- declarations of objects are read rightly where expressions are
abbrev pub ObjectsAreRead : Type 0
ObjectsAreRead = (n : ℕ) → RightExpressions n → Reads (λ (o : Objects). node (a.objects o) ∷ []) n always (objects_at n)
