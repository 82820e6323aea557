-- The objects of each block follow one another in number.
use Rattle.std.specs.Prelude.{◌≡◌, ℕ, ◌+◌, ◌==◌, ◌&&◌, Bool, true, List, [], ◌∷◌, map, Option, Some, None}
use Rattle.c_tree.specs.declared.program.Program.{Program}
use Rattle.c_typed.specs.declared.statement.Start.{Start}
use Rattle.c_typed.specs.declared.statement.TypedBlock.{TypedBlock}
use Rattle.c_typed.specs.declared.statement.TypedStmt.{TypedStmt}
use Rattle.c_typed.specs.declared.statement.TypedStmt.TheOpen as node
use Rattle.c_typed.specs.declared.statement.TypedStmt.TheFolds.{fold-TypedStmt, fold-TypedBlock}
use Rattle.c_typed.specs.declared.typed.Typed.{Typed}
use Rattle.c_typed.specs.declared.typed.TypedFunction.{TypedFunction}
use Rattle.c_types.specs.Tied.{IsTied}

-- the objects have the numbers from this one on
abbrev pub follow : ℕ → List Start → Bool
follow number [] = true
follow number (start ∷ starts) = (start.object == number) && follow (number + 1) starts

-- the number of the first object; 0 where there is none
abbrev pub first_object : List Start → ℕ
first_object [] = 0
first_object (start ∷ starts) = start.object

abbrev pub all_hold : List Bool → Bool
all_hold [] = true
all_hold (one ∷ rest) = one && all_hold rest

abbrev pub holds_if_any : Option Bool → Bool
holds_if_any None = true
holds_if_any (Some holds) = holds

unfoldable pub of_statement : node.TypedStmt-F Bool Bool → Bool
of_statement (node.Empty at) = true
of_statement (node.Block block) = block
of_statement (node.Simple simple) = true
of_statement (node.If at cond this other) = this && holds_if_any other
of_statement (node.While at cond body) = body
of_statement (node.Do at body cond) = body
of_statement (node.For at first cond last body) = body
of_statement (node.Break at) = true
of_statement (node.Continue at) = true
of_statement (node.Return at value) = true

unfoldable pub of_block : node.TypedBlock-F Bool Bool → Bool
of_block block = follow (first_object block.objects) block.objects && all_hold block.stmts

abbrev pub statement_follows : TypedStmt → Bool
statement_follows = fold-TypedStmt Bool Bool of_statement of_block

-- in a block and in all blocks inside it the objects follow one another
abbrev pub block_follows : TypedBlock → Bool
block_follows = fold-TypedBlock Bool Bool of_statement of_block

abbrev pub body_follows : Option TypedBlock → Bool
body_follows None = true
body_follows (Some body) = block_follows body

abbrev pub function_follows : TypedFunction → Bool
function_follows function = body_follows function.body

abbrev pub BlocksFollow : Type 0
BlocksFollow = (program : Program) (typed : Typed) → IsTied program typed → all_hold (map function_follows typed.functions) ≡ true
