-- What is proved of reading statements.
use Rattle.std.specs.Prelude.{ℕ, [], ◌∷◌}
use Rattle.c_tree.specs.declared.declaration.Objects.{Objects}
use Rattle.c_tree.specs.declared.statement.Block.{Block}
use Rattle.c_grammar.specs.Nodes as a
use Rattle.c_grammar.specs.Parts.{node}
use Rattle.right_reading.specs.ReadStatements.{block_with}
use Rattle.right_reading.specs.Right.{Reads, always}
use Rattle.right_reading.specs.RightExpressions.{RightExpressions}
use Rattle.right_reading.specs.Stream.{Parser}

-- blocks are read rightly where expressions and declarations are
abbrev pub BlocksAreRead : Type 0
BlocksAreRead =
    (objects : ℕ → Parser Objects) → ((n : ℕ) → RightExpressions n) → ((n : ℕ) → Reads (λ (o : Objects). node (a.objects o) ∷ []) n always (objects n))
    → (n : ℕ) → Reads (λ (b : Block). node (a.block b) ∷ []) n always (block_with objects n)
