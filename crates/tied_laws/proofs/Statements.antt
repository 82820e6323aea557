-- In each statement whose names are tied the objects of blocks follow one another: an induction over the tree.
use Rattle.std.proofs.Common.{◌≡◌, List, [], ◌∷◌, true, map, refl, sym, ap, ◌∙◌, subst}
use Rattle.std.specs.Prelude.{◌&&◌, Option, Some, None, length}
use Rattle.sat_base.specs.declared.name.At.{At}
use Rattle.c_tree.specs.declared.statement.Block.{Block, ind-Block, roll-Block}
use Rattle.c_tree.specs.declared.statement.Stmt.TheOpen as node
use Rattle.c_tree.specs.declared.statement.Stmt.{Stmt, fold-roll-Stmt, map-Stmt, roll-Stmt}
use Rattle.c_typed.specs.declared.expression.TypedExpr.{TypedExpr}
use Rattle.c_typed.specs.declared.simple.TypedSimple.{TypedSimple}
use Rattle.c_typed.specs.declared.statement.TypedBlock.{TypedBlock}
use Rattle.c_typed.specs.declared.statement.TypedStmt.{TypedStmt}
use Rattle.c_typed.specs.declared.statement.TypedStmt.TheOpen as layer
use Rattle.c_typed.specs.declared.statement.TypedStmt.TheFolds.{fold-roll-TypedStmt, fold_out-TypedBlock}
use Rattle.c_typed.specs.declared.statement.TypedStmt.TheVariants as typed
use Rattle.tied_names.specs.Ties.{Here}
use Rattle.tied_statements.specs.declared.statements.Inside.{Inside}
use Rattle.tied_statements.specs.Declarations.{with_objects, starts_in_lists}
use Rattle.tied_statements.specs.Statements.{Done, Walk, of_statement as tie_statement, of_block as tie_block, returned, tied_simple, tied_simples, tied_if_any, tied_statement, tied_block, tied_statements}
use Rattle.tied_expressions.specs.Expressions.{tied_expression}
use Rattle.tied_statements.proofs.Statement_equations.{block-parts}
use Rattle.tied_laws.specs.Following.{all_hold, follow, first_object, of_statement, of_block, statement_follows, block_follows}
use Rattle.tied_laws.proofs.Starts.{both, follow-lists, follow-first}

-- what the definition says of each statement
follows-Empty : (at : At) → statement_follows (typed.Empty at) ≡ true
unfolding of_statement
follows-Empty at = ap statement_follows (sym (typed.rolls-Empty at)) ∙ fold-roll-TypedStmt _ _ of_statement of_block (layer.Empty at)

follows-Block : (block : TypedBlock) → statement_follows (typed.Block block) ≡ block_follows block
unfolding of_statement
follows-Block block = ap statement_follows (sym (typed.rolls-Block block)) ∙ fold-roll-TypedStmt _ _ of_statement of_block (layer.Block block)

follows-Simple : (simple : TypedSimple) → statement_follows (typed.Simple simple) ≡ true
unfolding of_statement
follows-Simple simple = ap statement_follows (sym (typed.rolls-Simple simple)) ∙ fold-roll-TypedStmt _ _ of_statement of_block (layer.Simple simple)

follows-Then : (at : At) (cond : TypedExpr) (this : TypedStmt) → statement_follows (typed.If at cond this None) ≡ (statement_follows this && true)
unfolding of_statement
follows-Then at cond this = ap statement_follows (sym (typed.rolls-If at cond this None)) ∙ fold-roll-TypedStmt _ _ of_statement of_block (layer.If at cond this None)

follows-Else : (at : At) (cond : TypedExpr) (this other : TypedStmt) → statement_follows (typed.If at cond this (Some other)) ≡ (statement_follows this && statement_follows other)
unfolding of_statement
follows-Else at cond this other = ap statement_follows (sym (typed.rolls-If at cond this (Some other))) ∙ fold-roll-TypedStmt _ _ of_statement of_block (layer.If at cond this (Some other))

follows-While : (at : At) (cond : TypedExpr) (body : TypedStmt) → statement_follows (typed.While at cond body) ≡ statement_follows body
unfolding of_statement
follows-While at cond body = ap statement_follows (sym (typed.rolls-While at cond body)) ∙ fold-roll-TypedStmt _ _ of_statement of_block (layer.While at cond body)

follows-Do : (at : At) (body : TypedStmt) (cond : TypedExpr) → statement_follows (typed.Do at body cond) ≡ statement_follows body
unfolding of_statement
follows-Do at body cond = ap statement_follows (sym (typed.rolls-Do at body cond)) ∙ fold-roll-TypedStmt _ _ of_statement of_block (layer.Do at body cond)

follows-For : (at : At) (first : List TypedSimple) (cond : Option TypedExpr) (last : List TypedSimple) (body : TypedStmt) → statement_follows (typed.For at first cond last body) ≡ statement_follows body
unfolding of_statement
follows-For at first cond last body = ap statement_follows (sym (typed.rolls-For at first cond last body)) ∙ fold-roll-TypedStmt _ _ of_statement of_block (layer.For at first cond last body)

follows-Break : (at : At) → statement_follows (typed.Break at) ≡ true
unfolding of_statement
follows-Break at = ap statement_follows (sym (typed.rolls-Break at)) ∙ fold-roll-TypedStmt _ _ of_statement of_block (layer.Break at)

follows-Continue : (at : At) → statement_follows (typed.Continue at) ≡ true
unfolding of_statement
follows-Continue at = ap statement_follows (sym (typed.rolls-Continue at)) ∙ fold-roll-TypedStmt _ _ of_statement of_block (layer.Continue at)

follows-Return : (at : At) (value : Option TypedExpr) → statement_follows (typed.Return at value) ≡ true
unfolding of_statement
follows-Return at value = ap statement_follows (sym (typed.rolls-Return at value)) ∙ fold-roll-TypedStmt _ _ of_statement of_block (layer.Return at value)

block-is : (block : TypedBlock) → block_follows block ≡ (follow (first_object block.objects) block.objects && all_hold (map statement_follows block.stmts))
unfolding of_block
block-is block = fold_out-TypedBlock _ _ of_statement of_block block

-- ---- the induction

abbrev pub StatementFollows : Stmt → Type 0
StatementFollows stmt = (here : Here) (inside : Inside) → statement_follows (tied_statement stmt here inside).value ≡ true

abbrev pub BlockFollows : Block → Type 0
BlockFollows block = (here : Here) (inside : Inside) → block_follows (tied_block block here inside).value ≡ true

module _ (A B : Type 0) (a : A → Stmt) (b : B → Block) (pa : (x : A) → StatementFollows (a x)) (pb : (x : B) → BlockFollows (b x)) where
  abbrev made : node.Stmt-F A B → Stmt
  made y = roll-Stmt (map-Stmt A B Stmt Block a b y)

  rolled : (y : node.Stmt-F A B) (here : Here) (inside : Inside)
      → statement_follows (tied_statement (made y) here inside).value ≡ statement_follows (tie_statement (map-Stmt Stmt Block (Walk TypedStmt) (Walk TypedBlock) tied_statement tied_block (map-Stmt A B Stmt Block a b y)) here inside).value
  unfolding tied_statement tied_block
  rolled y here inside = ap (λ (w : Walk TypedStmt). statement_follows (w here inside).value) (fold-roll-Stmt (Walk TypedStmt) (Walk TypedBlock) tie_statement tie_block (map-Stmt A B Stmt Block a b y))

  statement-step : (y : node.Stmt-F A B) → StatementFollows (made y)
  statement-step (node.Empty at) here inside = rolled (node.Empty at) here inside ∙ follows-Empty at
  statement-step (node.Block block) here inside = rolled (node.Block block) here inside ∙ follows-Block (tied_block (b block) here inside).value ∙ pb block here inside
  statement-step (node.Simple s) here inside = rolled (node.Simple s) here inside ∙ follows-Simple (tied_simple here s).value
  statement-step (node.If at cond one None) here inside =
      rolled (node.If at cond one None) here inside ∙ follows-Then at (tied_expression cond here).value (tied_statement (a one) here inside).value ∙ both (statement_follows (tied_statement (a one) here inside).value) true (pa one here inside) refl
  statement-step (node.If at cond one (Some other)) here inside =
      rolled (node.If at cond one (Some other)) here inside ∙ follows-Else at (tied_expression cond here).value (tied_statement (a one) here inside).value (tied_statement (a other) (with_objects here (tied_statement (a one) here inside).objects) inside).value
      ∙ both (statement_follows (tied_statement (a one) here inside).value) (statement_follows (tied_statement (a other) (with_objects here (tied_statement (a one) here inside).objects) inside).value) (pa one here inside) (pa other (with_objects here (tied_statement (a one) here inside).objects) inside)
  statement-step (node.While at cond body) here inside = rolled (node.While at cond body) here inside ∙ follows-While at (tied_expression cond here).value (tied_statement (a body) here inside).value ∙ pa body here inside
  statement-step (node.Do at body cond) here inside = rolled (node.Do at body cond) here inside ∙ follows-Do at (tied_statement (a body) here inside).value (tied_expression cond (with_objects here (tied_statement (a body) here inside).objects)).value ∙ pa body here inside
  statement-step (node.For at first cond last body) here inside =
      rolled (node.For at first cond last body) here inside ∙ follows-For at (tied_simples here first).value (tied_if_any here cond).value (tied_simples here last).value (tied_statement (a body) here inside).value ∙ pa body here inside
  statement-step (node.Break at) here inside = rolled (node.Break at) here inside ∙ follows-Break at
  statement-step (node.Continue at) here inside = rolled (node.Continue at) here inside ∙ follows-Continue at
  statement-step (node.Return at value) here inside = rolled (node.Return at value) here inside ∙ follows-Return at (returned inside.gives (tied_if_any here value).value)

  listed : (ys : List A) (here : Here) (inside : Inside) → all_hold (map statement_follows (tied_statements (map a ys) here inside).value) ≡ true
  listed [] here inside = refl
  listed (y ∷ ys) here inside = both _ _ (pa y here inside) (listed ys (with_objects here (tied_statement (a y) here inside).objects) inside)

  block-step : (y : node.Block-F A B) → BlockFollows (record { at = y.at; objects = y.objects; stmts = map a y.stmts })
  block-step y here inside =
      ap (λ (d : Done TypedBlock). block_follows d.value) (block-parts (record { at = y.at; objects = y.objects; stmts = map a y.stmts }) here inside)
      ∙ block-is _
      ∙ both _ _ (follow-first (length here.objects) _ (follow-lists here inside.function y.objects)) (listed y.stmts (starts_in_lists here inside.function y.objects).after inside)

pub block-follows : (block : Block) → BlockFollows block
block-follows = ind-Block StatementFollows BlockFollows
    (λ x y is. subst (λ z. StatementFollows (roll-Stmt z)) is (statement-step _ _ (λ q. q.0) (λ q. q.0) (λ q. q.1) (λ q. q.1) y))
    (λ x y is. subst (λ z. BlockFollows (roll-Block z)) is (block-step _ _ (λ q. q.0) (λ q. q.0) (λ q. q.1) (λ q. q.1) y))
