-- The tree of a statement ends as the statement does, and its loops are counted along: an induction over the statement.
use Rattle.std.proofs.Common.{◌≡◌, ℕ, ◌+◌, List, [], ◌∷◌, true, map, refl, sym, ap, ◌∙◌, subst}
use Rattle.std.specs.Prelude.{Option, Some, None}
use Rattle.c_typed.specs.declared.call.Callee.{Callee}
use Rattle.c_typed.specs.declared.call.Callee.TheVariants.{Function, Operator, Move16, Move32, Logic16, Logic32, Test, SampleIn, SampleLeft, SampleOut}
use Rattle.c_typed.specs.declared.expression.TypedExpr.{TypedExpr}
use Rattle.c_typed.specs.declared.expression.TypedExprKind.{TypedExprKind, Int}
use Rattle.c_typed.specs.declared.simple.TypedSimple.{TypedSimple}
use Rattle.c_typed.specs.declared.simple.TypedSimple.TheVariants as simple
use Rattle.c_typed.specs.declared.statement.TypedBlock.{TypedBlock, roll-TypedBlock}
use Rattle.c_typed.specs.declared.statement.TypedStmt.{TypedStmt}
use Rattle.c_typed.specs.declared.statement.TypedStmt.TheOpen as node
use Rattle.c_typed.specs.declared.statement.TypedStmt.TheViews.{roll-TypedStmt}
use Rattle.c_typed.specs.declared.statement.TypedStmt.TheFolds.{fold-TypedStmt, map-TypedStmt, fold-roll-TypedStmt, fold_out-TypedBlock, ind-TypedBlock}
use Rattle.ir_arena.specs.Tree.{IrTree, trees_from}
use Rattle.source_trees.specs.Expressions.{TreeSetting, kind_tree, called_tree}
use Rattle.source_trees.specs.Statements.{Numbered, Numbering, loopless, trees_along, next_along, conditions, simple_tree, statement_tree, block_tree, of_statement as statement_node, of_block as block_node}
use Rattle.source_trees.proofs.Expressions.{kind-Int, call-is, expression-is}
use Rattle.lawful_sources.specs.Returns.{Ending, goes_on, is_nonzero, is_endless, of_statement, of_block, ending_of}
use Rattle.lawful_ir.specs.Endings as tree
use Rattle.lawful_ir.specs.Endings.{ending_in, endings_in}
use Rattle.lawful_ir.specs.Lawful.{loops_in, loops_in_each}
use Rattle.lawful_ir.proofs.Alike.{never}
use Rattle.ir_endings.proofs.Endings.{Ends, ends-so, AllEnd, ends-more, ends-then, ends-else, ends-loop, Counts, counts-none, counts-along, counts-loop}

-- a tree that is numbered from here on, by how its source ends
pub record Made (next : ℕ) (made : Numbered) (ending : Ending) : Type 0 where
  pub ends : Ends (ending_in made.tree) ending
  pub counts : Counts next made.next (loops_in made.tree)

-- several
record Row (next after : ℕ) (trees : List IrTree) (endings : List Ending) : Type 0 where
  ends : AllEnd (endings_in (trees_from trees)) endings
  counts : Counts next after (loops_in_each (trees_from trees))

-- ---- what neither is a loop nor ends

record Passes (node : IrTree) : Type 0 where
  on : ending_in node ≡ goes_on
  loops : loops_in node ≡ []

made-plain : (node : IrTree) (next : ℕ) → Passes node → Made next (loopless node next) goes_on
made-plain node next passes =
    record { ends = subst (λ e. Ends e goes_on) (sym passes.on) (ends-so goes_on); counts = subst (Counts next next) (sym passes.loops) (counts-none next) }

module _ (here : TreeSetting) where
  call-passes : (callee : Callee) (site : ℕ) (args : List IrTree) → Passes (called_tree here callee site args)
  call-passes (Function number) site args = record { on = refl; loops = refl }
  call-passes (Operator op) site args = record { on = refl; loops = refl }
  call-passes Move16 site args = record { on = refl; loops = refl }
  call-passes Move32 site args = record { on = refl; loops = refl }
  call-passes Logic16 site args = record { on = refl; loops = refl }
  call-passes Logic32 site args = record { on = refl; loops = refl }
  call-passes Test site args = record { on = refl; loops = refl }
  call-passes SampleIn site args = record { on = refl; loops = refl }
  call-passes SampleLeft site args = record { on = refl; loops = refl }
  call-passes SampleOut site args = record { on = refl; loops = refl }

  simple-passes : (x : TypedSimple) → Passes (simple_tree here x)
  simple-passes (simple.Assign at place mark mark_at site value) = record { on = refl; loops = refl }
  simple-passes (simple.Step at place up mark_at site) = record { on = refl; loops = refl }
  simple-passes (simple.SetOverflow at value) = record { on = refl; loops = refl }
  simple-passes (simple.Call call) = subst Passes (sym (call-is here call)) (call-passes call.callee _ _)

  -- ---- conditions

  nonzero-there : (x : TypedExprKind) → is_nonzero x ≡ true → tree.is_nonzero (kind_tree here x) ≡ true
  nonzero-there (Int value) p = ap tree.is_nonzero (kind-Int here value) ∙ p
  nonzero-there x p = never p

  endless-there : (cond : Option TypedExpr) → is_endless cond ≡ true → tree.is_endless (conditions here cond) ≡ true
  endless-there None p = refl
  endless-there (Some cond) p = ap tree.is_nonzero (expression-is here cond) ∙ nonzero-there cond.kind p

  -- ---- the induction

  abbrev ending_of_statement : TypedStmt → Ending
  ending_of_statement = fold-TypedStmt Ending Ending of_statement of_block

  abbrev StatementMade : TypedStmt → Type 0
  StatementMade x = (next : ℕ) → Made next (statement_tree here x next) (ending_of_statement x)

  abbrev BlockMade : TypedBlock → Type 0
  BlockMade x = (next : ℕ) → Made next (block_tree here x next) (ending_of x)

  abbrev SS : Type 0
  SS = (x : TypedStmt) × StatementMade x

  abbrev SB : Type 0
  SB = (x : TypedBlock) × BlockMade x

  statement-by : (x : TypedStmt) (numbering : Numbering) (ending : Ending) → statement_tree here x ≡ numbering → ending_of_statement x ≡ ending → ((next : ℕ) → Made next (numbering next) ending) → StatementMade x
  statement-by x numbering ending tree is made next =
      subst (λ (n : Numbering). Made next (n next) (ending_of_statement x)) (sym tree) (subst (Made next (numbering next)) (sym is) (made next))

  rolled : (z : node.TypedStmt-F TypedStmt TypedBlock) → statement_tree here (roll-TypedStmt z) ≡ statement_node here (map-TypedStmt TypedStmt TypedBlock Numbering Numbering (statement_tree here) (block_tree here) z)
  rolled = fold-roll-TypedStmt _ _ (statement_node here) (block_node here)

  ended : (z : node.TypedStmt-F TypedStmt TypedBlock) → ending_of_statement (roll-TypedStmt z) ≡ of_statement (map-TypedStmt TypedStmt TypedBlock Ending Ending ending_of_statement ending_of z)
  ended = fold-roll-TypedStmt _ _ of_statement of_block

  on_statement : (y : node.TypedStmt-F SS SB) → StatementMade (roll-TypedStmt (map-TypedStmt SS SB TypedStmt TypedBlock (λ q. q.0) (λ q. q.0) y))
  unfolding of_statement statement_node
  on_statement (node.Empty at) = statement-by _ _ _ (rolled _) (ended _) (λ next. made-plain _ next (record { on = refl; loops = refl }))
  on_statement (node.Block block) = statement-by _ _ _ (rolled _) (ended _) block.1
  on_statement (node.Simple one) = statement-by _ _ _ (rolled _) (ended _) (λ next. made-plain _ next (simple-passes one))
  on_statement (node.If at cond this None) = statement-by _ _ _ (rolled _) (ended _) (λ next.
      let one = this.1 next in record { ends = ends-then _ _ one.ends; counts = counts-along next _ _ _ [] one.counts (counts-none _) })
  on_statement (node.If at cond this (Some other)) = statement-by _ _ _ (rolled _) (ended _) (λ next.
      let one = this.1 next in let second = other.1 _ in
      record { ends = ends-else _ _ _ _ one.ends second.ends; counts = counts-along next _ _ _ _ one.counts (counts-along _ _ _ _ [] second.counts (counts-none _)) })
  on_statement (node.While at cond body) = statement-by _ _ _ (rolled _) (ended _) (λ next.
      let inside = body.1 (next + 1) in record { ends = ends-loop _ _ _ _ (endless-there (Some cond)) inside.ends; counts = counts-loop next _ _ inside.counts })
  on_statement (node.Do at body cond) = statement-by _ _ _ (rolled _) (ended _) (λ next. record { ends = ends-so goes_on; counts = counts-loop next _ _ (body.1 (next + 1)).counts })
  on_statement (node.For at first cond last body) = statement-by _ _ _ (rolled _) (ended _) (λ next.
      let inside = body.1 (next + 1) in record { ends = ends-loop _ _ _ _ (endless-there cond) inside.ends; counts = counts-loop next _ _ inside.counts })
  on_statement (node.Break at) = statement-by _ _ _ (rolled _) (ended _) (λ next. record { ends = ends-so _; counts = counts-none next })
  on_statement (node.Continue at) = statement-by _ _ _ (rolled _) (ended _) (λ next. record { ends = ends-so _; counts = counts-none next })
  on_statement (node.Return at value) = statement-by _ _ _ (rolled _) (ended _) (λ next. record { ends = ends-so _; counts = counts-none next })

  listed : (ys : List SS) (next : ℕ) → Row next (next_along (map (statement_tree here) (map (λ (q : SS). q.0) ys)) next) (trees_along (map (statement_tree here) (map (λ (q : SS). q.0) ys)) next)
      (map ending_of_statement (map (λ (q : SS). q.0) ys))
  listed [] next = record { ends = record { ends = ends-so _ }; counts = counts-none next }
  listed (y ∷ ys) next =
      let one = y.1 next in let rest = listed ys _ in
      record { ends = ends-more _ _ _ _ one.ends rest.ends; counts = counts-along next _ _ _ _ one.counts rest.counts }

  on_block : (y : node.TypedBlock-F SS SB) → BlockMade (record { at = y.at; objects = y.objects; stmts = map (λ (q : SS). q.0) y.stmts })
  unfolding of_block block_node
  on_block y next =
      let block : TypedBlock = record { at = y.at; objects = y.objects; stmts = map (λ (q : SS). q.0) y.stmts } in
      let row = listed y.stmts next in
      subst (λ (n : Numbering). Made next (n next) (ending_of block)) (sym (fold_out-TypedBlock _ _ (statement_node here) (block_node here) block))
      (subst (Made next _) (sym (fold_out-TypedBlock _ _ of_statement of_block block)) (record { ends = row.ends.ends; counts = row.counts }))

  pub block-made : (x : TypedBlock) → BlockMade x
  block-made = ind-TypedBlock StatementMade BlockMade
      (λ x y is. subst (λ z. StatementMade (roll-TypedStmt z)) is (on_statement y))
      (λ x y is. subst (λ z. BlockMade (roll-TypedBlock z)) is (on_block y))
