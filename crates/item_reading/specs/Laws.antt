-- What is proved of reading items.
use Rattle.std.specs.Prelude.{ℕ, List, [], ◌∷◌, Bool, Result, Ok, ◌≡◌}
use Rattle.c_tree.specs.declared.program.Item.{Item}
use Rattle.c_tree.specs.declared.statement.Block.{Block}
use Rattle.c_grammar.specs.declared.symbol.Symbol.{Symbol}
use Rattle.c_grammar.specs.declared.symbol.Symbol.TheVariants as symbol
use Rattle.c_grammar.specs.Nodes as a
use Rattle.c_grammar.specs.Parts.{Part, node, each}
use Rattle.c_grammar.specs.Spots.{Spot}
use Rattle.c_grammar.specs.Symbols.{same_symbol}
use Rattle.right_reading.specs.ReadSource.{items_at}
use Rattle.right_reading.specs.Right.{Ends, Right, Reads, always}
use Rattle.right_reading.specs.RightExpressions.{RightExpressions}
use Rattle.right_reading.specs.Stream.{ahead, Fault, Parser, ◌>>=◌}

-- one item, and those after it
abbrev pub items_parts : Item × List Item → List Part
items_parts x = each a.item (x.0 ∷ x.1)

abbrev pub items_stops : Item × List Item → Symbol → Bool
items_stops x s = same_symbol s symbol.End

-- what is read of all items is read rightly
pub record ReadsItems (block : Parser Block) (n : ℕ) (i : List Spot) : Type 0 where
  pub read : Result ((Item × List Item) × List Spot) Fault
  pub right : Right items_parts n items_stops [] i read
  pub same : items_at block n i ≡ (read >>= (λ z. Ok (z.0.0 ∷ z.0.1, z.1)))
  -- they go on up to the end
  pub ended : (items : List Item) (j : List Spot) → items_at block n i ≡ Ok (items, j) → ahead j ≡ symbol.End

-- items are read rightly where expressions and blocks are
abbrev pub ItemsAreRead : Type 0
ItemsAreRead =
    (n : ℕ) (block : Parser Block) → RightExpressions n → Reads (λ (b : Block). node (a.block b) ∷ []) n always block → (i : List Spot) → Ends i → ReadsItems block n i
