-- What is seen in statements, by the names that are in scope.
use Rattle.std.specs.Prelude.{suc, true, false, List, [], ◌∷◌, ◌++◌, flat_map, Option, Some, None, is_some}
use Rattle.sat_base.specs.declared.name.At.{At}
use Rattle.c_tree.specs.declared.simple.Simple.{Simple}
use Rattle.c_tree.specs.declared.simple.Simple.TheVariants as simple
use Rattle.c_tree.specs.declared.statement.Block.{Block, fold-Block}
use Rattle.c_tree.specs.declared.statement.Stmt.TheOpen as node
use Rattle.c_tree.specs.declared.statement.Stmt.{Stmt, fold-Stmt}
use Rattle.c_tree.specs.Starts.{start_of_simple}
use Rattle.c_seen.specs.declared.seen.Need.TheVariants as needs
use Rattle.c_seen.specs.declared.seen.Seen.{Seen}
use Rattle.c_seen.specs.declared.seen.Seen.TheVariants as seen
use Rattle.c_seen.specs.declared.statements.Spot.{Spot}
use Rattle.c_seen.specs.Declarations.{number, number_if_any, seen_in_lists, after_lists}
use Rattle.c_seen.specs.Expressions.{seen_in_place, seen_in_call}
use Rattle.c_seen.specs.Meanings.{Names}

abbrev pub seen_in_simple : Names → Simple → List Seen
seen_in_simple names (simple.Assign at place mark mark_at value) = seen_in_place place names false needs.Target ++ number names value
seen_in_simple names (simple.Step at place up mark_at) = seen_in_place place names false needs.Target
seen_in_simple names (simple.SetOverflow at value) = number names value
seen_in_simple names (simple.Call call) = seen_in_call call names needs.Nothing

abbrev pub simples : Names → List Simple → List Seen
simples names list = flat_map (seen_in_simple names) list

-- inside a loop
abbrev pub in_loop : Spot → Spot
in_loop spot = record spot { in_loop = true }

-- in a block
abbrev pub inner : Spot → Spot
inner spot = record spot { depth = suc spot.depth }

-- what is seen in a statement, by the names and by where it stands
abbrev pub Walk : Type 0
Walk = Names → Spot → List Seen

abbrev pub all_of : List Walk → Walk
all_of [] = λ names spot. []
all_of (one ∷ rest) = λ names spot. one names spot ++ all_of rest names spot

abbrev pub walk_if_any : Option Walk → Walk
walk_if_any None = λ names spot. []
walk_if_any (Some one) = one

-- a block besides has its first token
pub record Blocked : Type 0 where
  pub at : At
  pub walk : Walk

-- in a block the names of its objects are in scope; after it those are that were before it
abbrev pub of_block : node.Block-F Walk Blocked → Blocked
of_block block = record { at = block.at; walk = λ names spot. seen_in_lists names spot.depth block.objects ++ all_of block.stmts (after_lists names spot.depth block.objects) spot }

abbrev pub of_statement : node.Stmt-F Walk Blocked → Walk
of_statement (node.Empty at) = λ names spot. seen.Statement at ∷ []
of_statement (node.Block block) = λ names spot. seen.Statement block.at ∷ block.walk names (inner spot)
of_statement (node.Simple s) = λ names spot. seen.Statement (start_of_simple s) ∷ seen_in_simple names s
of_statement (node.If at cond one other) = λ names spot. seen.Statement at ∷ (number names cond ++ (one names spot ++ walk_if_any other names spot))
of_statement (node.While at cond body) = λ names spot. seen.Statement at ∷ (number names cond ++ body names (in_loop spot))
of_statement (node.Do at body cond) = λ names spot. seen.Statement at ∷ (body names (in_loop spot) ++ number names cond)
of_statement (node.For at first cond last body) =
    λ names spot. seen.Statement at ∷ (simples names first ++ (number_if_any names cond ++ (simples names last ++ body names (in_loop spot))))
of_statement (node.Break at) = λ names spot. seen.Statement at ∷ seen.Leave at spot.in_loop ∷ []
of_statement (node.Continue at) = λ names spot. seen.Statement at ∷ seen.Leave at spot.in_loop ∷ []
of_statement (node.Return at value) = λ names spot. seen.Statement at ∷ seen.Return at (is_some value) spot.gives ∷ number_if_any names value

abbrev pub blocked_of : Block → Blocked
blocked_of = fold-Block Walk Blocked of_statement of_block

unfoldable pub seen_in_statement : Stmt → Names → Spot → List Seen
seen_in_statement = fold-Stmt Walk Blocked of_statement of_block

unfoldable pub seen_in_block : Block → Names → Spot → List Seen
seen_in_block block = (blocked_of block).walk

abbrev pub seen_if_any : Option Stmt → Names → Spot → List Seen
seen_if_any None names spot = []
seen_if_any (Some stmt) names spot = seen_in_statement stmt names spot

-- what is seen in statements that follow one another
abbrev pub seen_in_statements : List Stmt → Names → Spot → List Seen
seen_in_statements [] names spot = []
seen_in_statements (stmt ∷ stmts) names spot = seen_in_statement stmt names spot ++ seen_in_statements stmts names spot
