-- What the definitions by folds say of each statement.
use Rattle.std.proofs.Common.{◌≡◌, List, [], ◌∷◌, ◌++◌, Option, Some, None, refl, sym, ap, ◌∙◌}
use Rattle.std.specs.Prelude.{map, is_some}
use Rattle.sat_base.specs.declared.name.At.{At}
use Rattle.c_tree.specs.declared.expression.Expr.{Expr}
use Rattle.c_tree.specs.declared.simple.Simple.{Simple}
use Rattle.c_tree.specs.declared.statement.Block.{Block, fold_out-Block}
use Rattle.c_tree.specs.declared.statement.Stmt.TheOpen as node
use Rattle.c_tree.specs.declared.statement.Stmt.{Stmt, fold-roll-Stmt}
use Rattle.c_tree.specs.declared.statement.Stmt.TheVariants as stmt
use Rattle.c_tree.specs.Starts.{start_of_simple}
use Rattle.c_seen.specs.declared.seen.Seen.{Seen}
use Rattle.c_seen.specs.declared.seen.Seen.TheVariants as seen
use Rattle.c_seen.specs.declared.statements.Spot.{Spot}
use Rattle.c_seen.specs.Declarations.{number, number_if_any, seen_in_lists, after_lists}
use Rattle.c_seen.specs.Meanings.{Names}
use Rattle.c_seen.proofs.Lists.{lists}
use Rattle.c_seen.specs.Statements.{Walk, Blocked, all_of, of_block, of_statement, in_loop, inner, seen_in_simple, simples, blocked_of, seen_in_statement, seen_in_block, seen_if_any, seen_in_statements}

blocked-at : (block : Block) → (blocked_of block).at ≡ block.at
blocked-at block = ap (λ (b : Blocked). b.at) (fold_out-Block Walk Blocked of_statement of_block block)

pub sees-Empty : (at : At) (names : Names) (spot : Spot) → seen_in_statement (stmt.Empty at) names spot ≡ seen.Statement at ∷ []
unfolding seen_in_statement
sees-Empty at names spot =
    ap (λ (s : Stmt). seen_in_statement s names spot) (sym (stmt.rolls-Empty at)) ∙ ap (λ (w : Walk). w names spot) (fold-roll-Stmt Walk Blocked of_statement of_block (node.Empty at))

pub sees-Block : (block : Block) (names : Names) (spot : Spot) → seen_in_statement (stmt.Block block) names spot ≡ seen.Statement block.at ∷ seen_in_block block names (inner spot)
unfolding seen_in_statement seen_in_block
sees-Block block names spot =
    ap (λ (s : Stmt). seen_in_statement s names spot) (sym (stmt.rolls-Block block)) ∙ ap (λ (w : Walk). w names spot) (fold-roll-Stmt Walk Blocked of_statement of_block (node.Block block)) ∙ ap (λ (at : At). seen.Statement at ∷ seen_in_block block names (inner spot)) (blocked-at block)

pub sees-Simple : (s : Simple) (names : Names) (spot : Spot) → seen_in_statement (stmt.Simple s) names spot ≡ seen.Statement (start_of_simple s) ∷ seen_in_simple names s
unfolding seen_in_statement
sees-Simple s names spot =
    ap (λ (s : Stmt). seen_in_statement s names spot) (sym (stmt.rolls-Simple s)) ∙ ap (λ (w : Walk). w names spot) (fold-roll-Stmt Walk Blocked of_statement of_block (node.Simple s))

sees-Then : (at : At) (cond : Expr) (one : Stmt) (names : Names) (spot : Spot) → seen_in_statement (stmt.If at cond one None) names spot ≡ seen.Statement at ∷ (number names cond ++ (seen_in_statement one names spot ++ []))
unfolding seen_in_statement
sees-Then at cond one names spot =
    ap (λ (s : Stmt). seen_in_statement s names spot) (sym (stmt.rolls-If at cond one None)) ∙ ap (λ (w : Walk). w names spot) (fold-roll-Stmt Walk Blocked of_statement of_block (node.If at cond one None))

sees-Else : (at : At) (cond : Expr) (one other : Stmt) (names : Names) (spot : Spot) → seen_in_statement (stmt.If at cond one (Some other)) names spot ≡ seen.Statement at ∷ (number names cond ++ (seen_in_statement one names spot ++ seen_in_statement other names spot))
unfolding seen_in_statement
sees-Else at cond one other names spot =
    ap (λ (s : Stmt). seen_in_statement s names spot) (sym (stmt.rolls-If at cond one (Some other))) ∙ ap (λ (w : Walk). w names spot) (fold-roll-Stmt Walk Blocked of_statement of_block (node.If at cond one (Some other)))

pub sees-While : (at : At) (cond : Expr) (body : Stmt) (names : Names) (spot : Spot) → seen_in_statement (stmt.While at cond body) names spot ≡ seen.Statement at ∷ (number names cond ++ seen_in_statement body names (in_loop spot))
unfolding seen_in_statement
sees-While at cond body names spot =
    ap (λ (s : Stmt). seen_in_statement s names spot) (sym (stmt.rolls-While at cond body)) ∙ ap (λ (w : Walk). w names spot) (fold-roll-Stmt Walk Blocked of_statement of_block (node.While at cond body))

pub sees-Do : (at : At) (body : Stmt) (cond : Expr) (names : Names) (spot : Spot) → seen_in_statement (stmt.Do at body cond) names spot ≡ seen.Statement at ∷ (seen_in_statement body names (in_loop spot) ++ number names cond)
unfolding seen_in_statement
sees-Do at body cond names spot =
    ap (λ (s : Stmt). seen_in_statement s names spot) (sym (stmt.rolls-Do at body cond)) ∙ ap (λ (w : Walk). w names spot) (fold-roll-Stmt Walk Blocked of_statement of_block (node.Do at body cond))

pub sees-For : (at : At) (first : List Simple) (cond : Option Expr) (last : List Simple) (body : Stmt) (names : Names) (spot : Spot) → seen_in_statement (stmt.For at first cond last body) names spot ≡ seen.Statement at ∷ (simples names first ++ (number_if_any names cond ++ (simples names last ++ seen_in_statement body names (in_loop spot))))
unfolding seen_in_statement
sees-For at first cond last body names spot =
    ap (λ (s : Stmt). seen_in_statement s names spot) (sym (stmt.rolls-For at first cond last body)) ∙ ap (λ (w : Walk). w names spot) (fold-roll-Stmt Walk Blocked of_statement of_block (node.For at first cond last body))

pub sees-Break : (at : At) (names : Names) (spot : Spot) → seen_in_statement (stmt.Break at) names spot ≡ seen.Statement at ∷ seen.Leave at spot.in_loop ∷ []
unfolding seen_in_statement
sees-Break at names spot =
    ap (λ (s : Stmt). seen_in_statement s names spot) (sym (stmt.rolls-Break at)) ∙ ap (λ (w : Walk). w names spot) (fold-roll-Stmt Walk Blocked of_statement of_block (node.Break at))

pub sees-Continue : (at : At) (names : Names) (spot : Spot) → seen_in_statement (stmt.Continue at) names spot ≡ seen.Statement at ∷ seen.Leave at spot.in_loop ∷ []
unfolding seen_in_statement
sees-Continue at names spot =
    ap (λ (s : Stmt). seen_in_statement s names spot) (sym (stmt.rolls-Continue at)) ∙ ap (λ (w : Walk). w names spot) (fold-roll-Stmt Walk Blocked of_statement of_block (node.Continue at))

pub sees-Return : (at : At) (value : Option Expr) (names : Names) (spot : Spot) → seen_in_statement (stmt.Return at value) names spot ≡ seen.Statement at ∷ seen.Return at (is_some value) spot.gives ∷ number_if_any names value
unfolding seen_in_statement
sees-Return at value names spot =
    ap (λ (s : Stmt). seen_in_statement s names spot) (sym (stmt.rolls-Return at value)) ∙ ap (λ (w : Walk). w names spot) (fold-roll-Stmt Walk Blocked of_statement of_block (node.Return at value))

pub sees-If : (at : At) (cond : Expr) (one : Stmt) (other : Option Stmt) (names : Names) (spot : Spot) → seen_in_statement (stmt.If at cond one other) names spot ≡ seen.Statement at ∷ (number names cond ++ (seen_in_statement one names spot ++ seen_if_any other names spot))
sees-If at cond one None names spot = sees-Then at cond one names spot
sees-If at cond one (Some other) names spot = sees-Else at cond one other names spot

all-listed : (stmts : List Stmt) (names : Names) (spot : Spot) → all_of (map seen_in_statement stmts) names spot ≡ seen_in_statements stmts names spot
all-listed [] names spot = refl
all-listed (s ∷ stmts) names spot = ap (λ (rest : List Seen). seen_in_statement s names spot ++ rest) (all-listed stmts names spot)

pub block-parts : (block : Block) (names : Names) (spot : Spot) → seen_in_block block names spot ≡ seen_in_lists names spot.depth block.objects ++ seen_in_statements block.stmts (after_lists names spot.depth block.objects) spot
unfolding seen_in_block seen_in_statement
block-parts block names spot =
    ap (λ (b : Blocked). b.walk names spot) (fold_out-Block Walk Blocked of_statement of_block block)
    ∙ ap (λ (rest : List Seen). seen_in_lists names spot.depth block.objects ++ rest) (all-listed block.stmts (after_lists names spot.depth block.objects) spot)

pub ruleset walks = (lists, block-parts, sees-Empty, sees-Block, sees-Simple, sees-If, sees-While, sees-Do, sees-For, sees-Break, sees-Continue, sees-Return)
