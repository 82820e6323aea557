-- What stands in the tree of a statement is what stands in that statement: an induction over the statement.
use Rattle.std.proofs.Common.{◌≡◌, ℕ, ◌+◌, List, [], ◌∷◌, ◌++◌, true, length, map, refl, sym, ap, subst, append-nil}
use Rattle.std.proofs.lemmas.List.Concat.{flat_map-append}
use Rattle.std.specs.Prelude.{flat_map, Some, None, is_some}
use Rattle.c_typed.specs.declared.expression.TypedExpr.{TypedExpr}
use Rattle.c_typed.specs.declared.statement.TypedBlock.{TypedBlock, roll-TypedBlock}
use Rattle.c_typed.specs.declared.statement.TypedStmt.{TypedStmt}
use Rattle.c_typed.specs.declared.statement.TypedStmt.TheOpen as node
use Rattle.c_typed.specs.declared.statement.TypedStmt.TheViews.{roll-TypedStmt}
use Rattle.c_typed.specs.declared.statement.TypedStmt.TheFolds.{map-TypedStmt, ind-TypedBlock}
use Rattle.c_typed.specs.declared.statement.TypedStmt.TheVariants as stmt
use Rattle.c_typed.specs.declared.typed.Typed.{Typed}
use Rattle.ir_arena.specs.Tree.{trees_from}
use Rattle.source_trees.specs.Expressions.{TreeSetting, expression_tree}
use Rattle.source_trees.specs.Statements.{Numbered, Numbering, first_object, starts_in, trees_along, statement_tree, block_tree}
use Rattle.source_trees.proofs.Statements as trees
use Rattle.lawful_sources.specs.Objects.{begun, begun_in, follow_one_another}
use Rattle.lawful_sources.specs.Statements.{Spot, Walk, looped, all_of as all_walks, in_value, in_start, of_statement, of_block, in_statement, in_block}
use Rattle.lawful_sources.specs.Things.{Thing, Statement, Return}
use Rattle.lawful_sources.proofs.Passing.{Each}
use Rattle.lawful_sources.proofs.Statements as stand
use Rattle.lawful_ir.specs.Positions.{TreeThing, Of, Stating, Body, plainly}
use Rattle.lawful_ir.specs.Walk.{begun_along, starts_stand, stands, each_stands}
use Rattle.lawful_ir.proofs.Alike.{earlier, later, tail, fine, Agrees, setting_of, Goes}
use Rattle.lawful_ir.proofs.Alike as alike
use Rattle.lawful_ir.proofs.Followed.{one-earlier, one-later, block-starts}
use Rattle.lawful_ir.proofs.Marked.{plain-goes}
use Rattle.lawful_ir.proofs.Expressions.{expression-walks}
use Rattle.lawful_ir.proofs.Simples.{simple-walks, simples-go, condition-goes, few-conditions}

module _ (source tables : Typed) (numbers : List ℕ) (place : ℕ → ℕ) (agrees : Agrees source tables numbers place) where
  abbrev here : TreeSetting
  here = setting_of source numbers

  -- these things of a tree are those of a source whose objects follow one another
  pub record Runs (things : List TreeThing) (list : List Thing) : Type 0 where
    pub runs : Each (fine source) list → follow_one_another (begun_in list) ≡ true → things ≡ alike.all_of source tables numbers list

  pub run-goes : (things : List TreeThing) (list : List Thing) → Goes source tables numbers things list → Runs things list
  run-goes things list goes = record { runs = λ p f. goes.is p }

  run-along : (things others : List TreeThing) (list rest : List Thing) → Runs things list → Runs others rest → Runs (things ++ others) (list ++ rest)
  run-along things others list rest one other =
      record {
        runs = λ p f.
            let follow : follow_one_another (begun_in list ++ begun_in rest) ≡ true = subst (λ (l : List ℕ). follow_one_another l ≡ true) (flat_map-append begun list rest) f in
            rw (one.runs (earlier (fine source) list rest p) (one-earlier (begun_in list) (begun_in rest) follow), other.runs (later (fine source) list rest p) (one-later (begun_in list) (begun_in rest) follow))
            (sym (flat_map-append (alike.converts tables numbers) list rest));
      }

  run-first : (things : List TreeThing) (list : List Thing) → Runs things list → Runs (Of Statement ∷ things) (Statement ∷ list)
  run-first things list run = record { runs = λ p f. ap (λ (l : List TreeThing). Of Statement ∷ l) (run.runs (tail (fine source) Statement list p) f) }

  run-by : (things others : List TreeThing) (list : List Thing) → others ≡ things → Runs things list → Runs others list
  run-by things others list is run = subst (λ t. Runs t list) (sym is) run

  abbrev pub StatementRuns : TypedStmt → Type 0
  StatementRuns x = (next : ℕ) (spot : Spot) → Runs (stands tables (statement_tree here x next).tree (Stating spot)) (in_statement source x spot)

  -- the block of a function, and one that is a statement
  abbrev pub BlockRuns : TypedBlock → Type 0
  BlockRuns x = (next : ℕ) (spot : Spot) → Runs (stands tables (block_tree here x next).tree (Body spot)) (in_block source x spot) × Runs (stands tables (block_tree here x next).tree (Stating spot)) (Statement ∷ in_block source x spot)

  statement-by : (x : TypedStmt) (numbering : Numbering) (walk : Walk) → statement_tree here x ≡ numbering → in_statement source x ≡ walk
      → ((next : ℕ) (spot : Spot) → Runs (stands tables (numbering next).tree (Stating spot)) (walk spot)) → StatementRuns x
  statement-by x numbering walk tree is runs next spot =
      subst (λ (n : Numbering). Runs (stands tables (n next).tree (Stating spot)) (in_statement source x spot)) (sym tree)
      (subst (λ (w : Walk). Runs (stands tables (numbering next).tree (Stating spot)) (w spot)) (sym is) (runs next spot))

  value-runs : (e : TypedExpr) → Runs (stands tables (expression_tree here e) plainly) (in_value source e)
  value-runs e = run-goes _ _ (plain-goes source tables numbers _ _ (expression-walks source tables numbers place agrees e))

  -- ---- the induction

  abbrev SS : Type 0
  SS = (x : TypedStmt) × StatementRuns x

  abbrev SB : Type 0
  SB = (x : TypedBlock) × BlockRuns x

  on_statement : (y : node.TypedStmt-F SS SB) → StatementRuns (roll-TypedStmt (map-TypedStmt SS SB TypedStmt TypedBlock (λ q. q.0) (λ q. q.0) y))
  unfolding of_statement
  on_statement (node.Empty at) = subst StatementRuns (sym (stmt.rolls-Empty at))
      (statement-by _ _ _ (trees.statement-Empty here at) (stand.statement-Empty source at) (λ next spot. record { runs = λ p f. refl }))
  on_statement (node.Block block) = subst StatementRuns (sym (stmt.rolls-Block block.0))
      (statement-by _ _ _ (trees.statement-Block here block.0) (stand.statement-Block source block.0) (λ next spot. (block.1 next spot).1))
  on_statement (node.Simple one) = subst StatementRuns (sym (stmt.rolls-Simple one))
      (statement-by _ _ _ (trees.statement-Simple here one) (stand.statement-Simple source one)
      (λ next spot. record { runs = λ p f. simple-walks source tables numbers place agrees one (Some spot) (tail (fine source) Statement _ p) }))
  on_statement (node.If at cond this None) = subst StatementRuns (sym (stmt.rolls-If at cond this.0 None))
      (statement-by _ _ _ (trees.statement-If here at cond this.0) (stand.statement-Then source at cond this.0)
      (λ next spot. run-first _ _ (run-along _ _ _ _ (value-runs cond) (run-along _ _ _ _ (this.1 next spot) (record { runs = λ p f. refl })))))
  on_statement (node.If at cond this (Some other)) = subst StatementRuns (sym (stmt.rolls-If at cond this.0 (Some other.0)))
      (statement-by _ _ _ (trees.statement-Else here at cond this.0 other.0) (stand.statement-Else source at cond this.0 other.0)
      (λ next spot. run-first _ _ (run-along _ _ _ _ (value-runs cond) (run-along _ _ _ _ (this.1 next spot) (run-by _ _ _ (append-nil _) (other.1 _ spot))))))
  on_statement (node.While at cond body) = subst StatementRuns (sym (stmt.rolls-While at cond body.0))
      (statement-by _ _ _ (trees.statement-While here at cond body.0) (stand.statement-While source at cond body.0)
      (λ next spot. run-first _ _ (run-along _ _ _ _ (run-by _ _ _ (append-nil _) (value-runs cond)) (body.1 (next + 1) (looped spot)))))
  on_statement (node.Do at body cond) = subst StatementRuns (sym (stmt.rolls-Do at body.0 cond))
      (statement-by _ _ _ (trees.statement-Do here at body.0 cond) (stand.statement-Do source at body.0 cond)
      (λ next spot. run-first _ _ (run-along _ _ _ _ (body.1 (next + 1) (looped spot)) (run-by _ _ _ (append-nil _) (value-runs cond)))))
  on_statement (node.For at first cond last body) = subst StatementRuns (sym (stmt.rolls-For at first cond last body.0))
      (statement-by _ _ _ (trees.statement-For here at first cond last body.0) (stand.statement-For source at first cond last body.0)
      (λ next spot. run-by _ _ _ (rw (few-conditions source tables numbers place agrees cond) refl) (run-first _ _ (run-along _ _ _ _ (run-goes _ _ (simples-go source tables numbers place agrees first 0))
      (run-along _ _ _ _ (run-goes _ _ (condition-goes source tables numbers place agrees cond None))
      (run-along _ _ _ _ (run-goes _ _ (simples-go source tables numbers place agrees last 0)) (body.1 (next + 1) (looped spot))))))))
  on_statement (node.Break at) = subst StatementRuns (sym (stmt.rolls-Break at))
      (statement-by _ _ _ (trees.statement-Break here at) (stand.statement-Break source at) (λ next spot. record { runs = λ p f. refl }))
  on_statement (node.Continue at) = subst StatementRuns (sym (stmt.rolls-Continue at))
      (statement-by _ _ _ (trees.statement-Continue here at) (stand.statement-Continue source at) (λ next spot. record { runs = λ p f. refl }))
  on_statement (node.Return at None) = subst StatementRuns (sym (stmt.rolls-Return at None))
      (statement-by _ _ _ (trees.statement-Return here at None) (stand.statement-Return source at None) (λ next spot. record { runs = λ p f. refl }))
  on_statement (node.Return at (Some value)) = subst StatementRuns (sym (stmt.rolls-Return at (Some value)))
      (statement-by _ _ _ (trees.statement-Return here at (Some value)) (stand.statement-Return source at (Some value))
      (λ next spot. record {
        runs = λ p f. ap (λ (l : List TreeThing). Of Statement ∷ Of (Return true (is_some spot.gives)) ∷ l)
            ((condition-goes source tables numbers place agrees (Some value) spot.gives).is (tail (fine source) _ _ (tail (fine source) Statement _ p)));
      }))

  listed : (ys : List SS) (next n : ℕ) (spot : Spot) → Runs (each_stands tables (trees_from (trees_along (map (statement_tree here) (map (λ (q : SS). q.0) ys)) next)) (λ k. Stating spot) n)
      (all_walks (map (in_statement source) (map (λ (q : SS). q.0) ys)) spot)
  listed [] next n spot = record { runs = λ p f. refl }
  listed (y ∷ ys) next n spot = run-along _ _ _ _ (y.1 next spot) (listed ys _ (n + 1) spot)

  on_block : (y : node.TypedBlock-F SS SB) → BlockRuns (record { at = y.at; objects = y.objects; stmts = map (λ (q : SS). q.0) y.stmts })
  unfolding of_block
  on_block y next spot =
      let block : TypedBlock = record { at = y.at; objects = y.objects; stmts = map (λ (q : SS). q.0) y.stmts } in
      let things : List TreeThing = begun_along (first_object y.objects) (length y.objects) (starts_stand tables (trees_from (starts_in here y.objects)))
      ++ each_stands tables (trees_from (trees_along (map (statement_tree here) block.stmts) next)) (λ k. Stating spot) 0 in
      let parts : Runs things (flat_map (in_start source) y.objects ++ all_walks (map (in_statement source) block.stmts) spot) =
      run-along _ _ _ _ (record { runs = λ p f. (block-starts source tables numbers place agrees y.objects f).is p }) (listed y.stmts next 0 spot) in
      subst (λ (n : Numbered). Runs (stands tables n.tree (Body spot)) (in_block source block spot) × Runs (stands tables n.tree (Stating spot)) (Statement ∷ in_block source block spot)) (sym (trees.block-is here block next))
      (subst (λ (w : Walk). Runs things (w spot) × Runs (Of Statement ∷ things) (Statement ∷ w spot)) (sym (stand.block-is source block)) (parts, run-first _ _ parts))

  pub block-runs : (x : TypedBlock) → BlockRuns x
  block-runs = ind-TypedBlock StatementRuns BlockRuns
      (λ x y is. subst (λ z. StatementRuns (roll-TypedStmt z)) is (on_statement y))
      (λ x y is. subst (λ z. BlockRuns (roll-TypedBlock z)) is (on_block y))
