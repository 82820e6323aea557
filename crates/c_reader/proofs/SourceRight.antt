-- Whole sources are read rightly, whatever the limit.
use Rattle.std.proofs.Common.{ℕ, List, [], ◌∷◌}
use Rattle.c_tree.specs.declared.declaration.Objects.{Objects}
use Rattle.c_tree.specs.declared.statement.Block.{Block}
use Rattle.c_grammar.specs.Nodes as a
use Rattle.c_grammar.specs.Parts.{node}
use Rattle.c_grammar.specs.Spots.{Spot}
use Rattle.right_reading.specs.ReadDeclarations.{objects_at}
use Rattle.right_reading.specs.ReadStatements.{block_with}
use Rattle.right_reading.specs.Right.{Ends, Reads, always}
use Rattle.expression_reading.proofs.AllRight.{expressions_are_read}
use Rattle.declaration_reading.proofs.AllRight.{objects_are_read}
use Rattle.statement_reading.proofs.AllRight.{blocks_are_read}
use Rattle.item_reading.specs.Laws.{ReadsItems}
use Rattle.item_reading.proofs.AllRight.{items_are_read}

declarations_right : (n : ℕ) → Reads (λ (o : Objects). node (a.objects o) ∷ []) n always (objects_at n)
declarations_right n = objects_are_read n (expressions_are_read n)

blocks_right : (n : ℕ) → Reads (λ (b : Block). node (a.block b) ∷ []) n always (block_with objects_at n)
blocks_right = blocks_are_read objects_at expressions_are_read declarations_right

pub source_right : (n : ℕ) (i : List Spot) → Ends i → ReadsItems (block_with objects_at n) n i
source_right n = items_are_read n (block_with objects_at n) (expressions_are_read n) (blocks_right n)
