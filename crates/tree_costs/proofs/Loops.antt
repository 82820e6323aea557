-- The numbers of loops cost nothing: a tree costs the same whatever number its first loop has.
use Rattle.std.proofs.Common.{◌≡◌, ℕ, ◌+◌, List, [], ◌∷◌, map, sym, ap, subst, refl, arith}
use Rattle.std.specs.Prelude.{Some, None, Bool, true, false}
use Rattle.c_typed.specs.declared.statement.TypedBlock.{TypedBlock, roll-TypedBlock, map-TypedBlock}
use Rattle.c_typed.specs.declared.statement.TypedStmt.{TypedStmt, roll-TypedStmt, map-TypedStmt}
use Rattle.c_typed.specs.declared.statement.TypedStmt.TheOpen as node
use Rattle.c_typed.specs.declared.statement.TypedStmt.TheFolds.{ind-TypedBlock}
use Rattle.c_typed.specs.declared.statement.TypedStmt.TheVariants as statement
use Rattle.ir_arena.specs.Costs.{cost_of, costs_of}
use Rattle.ir_arena.specs.Tree.{IrTree, IrTrees, end, more, trees_from}
use Rattle.source_trees.specs.Expressions.{TreeSetting, expression_tree}
use Rattle.source_trees.specs.Statements.{Numbered, Numbering, trees_along, if_tree, else_tree, loop_tree, conditions, simples_tree, statement_tree, block_tree}
use Rattle.source_trees.proofs.Statements as tree

-- its cost does not depend on the number of its first loop
abbrev pub IsSteady : Numbering → Type 0
IsSteady part = (one other : ℕ) → cost_of (part one).tree ≡ cost_of (part other).tree

module _ (trees : TreeSetting) where
  steady_if : (cond : IrTree) (this : Numbering) → IsSteady this → IsSteady (if_tree trees cond this)
  steady_if cond this steady one other = omega (arith, steady one other)

  steady_else : (cond : IrTree) (this part : Numbering) → IsSteady this → IsSteady part → IsSteady (else_tree trees cond this part)
  steady_else cond this part steady steady2 one other = omega (arith, steady one other, steady2 (this one).next (this other).next)

  steady_loop : (tests_first : Bool) (first cond last : IrTrees) (body : Numbering) → IsSteady body → IsSteady (loop_tree trees tests_first first cond last body)
  steady_loop tests_first first cond last body steady one other = omega (arith, steady (one + 1) (other + 1))

  abbrev S : TypedStmt → Type 0
  S stmt = IsSteady (statement_tree trees stmt)

  abbrev B : TypedBlock → Type 0
  B block = IsSteady (block_tree trees block)

  abbrev SS : Type 0
  SS = (s : TypedStmt) × S s

  abbrev SB : Type 0
  SB = (b : TypedBlock) × B b

  on_statement : (y : node.TypedStmt-F SS SB) → S (roll-TypedStmt (map-TypedStmt SS SB TypedStmt TypedBlock (λ e. e.0) (λ e. e.0) y))
  on_statement (node.Empty at) = subst S (sym (statement.rolls-Empty at)) (subst IsSteady (sym (tree.statement-Empty trees at)) (λ one other. refl))
  on_statement (node.Block block) = subst S (sym (statement.rolls-Block block.0)) (subst IsSteady (sym (tree.statement-Block trees block.0)) block.1)
  on_statement (node.Simple simple) = subst S (sym (statement.rolls-Simple simple)) (subst IsSteady (sym (tree.statement-Simple trees simple)) (λ one other. refl))
  on_statement (node.If at cond this None) =
      subst S (sym (statement.rolls-If at cond this.0 None))
      (subst IsSteady (sym (tree.statement-If trees at cond this.0)) (steady_if (expression_tree trees cond) (statement_tree trees this.0) this.1))
  on_statement (node.If at cond this (Some other)) =
      subst S (sym (statement.rolls-If at cond this.0 (Some other.0)))
      (subst IsSteady (sym (tree.statement-Else trees at cond this.0 other.0)) (steady_else (expression_tree trees cond) (statement_tree trees this.0) (statement_tree trees other.0) this.1 other.1))
  on_statement (node.While at cond body) =
      subst S (sym (statement.rolls-While at cond body.0))
      (subst IsSteady (sym (tree.statement-While trees at cond body.0)) (steady_loop true end (more (expression_tree trees cond) end) end (statement_tree trees body.0) body.1))
  on_statement (node.Do at body cond) =
      subst S (sym (statement.rolls-Do at body.0 cond))
      (subst IsSteady (sym (tree.statement-Do trees at body.0 cond)) (steady_loop false end (more (expression_tree trees cond) end) end (statement_tree trees body.0) body.1))
  on_statement (node.For at first cond last body) =
      subst S (sym (statement.rolls-For at first cond last body.0))
      (subst IsSteady (sym (tree.statement-For trees at first cond last body.0))
      (steady_loop true (simples_tree trees first) (conditions trees cond) (simples_tree trees last) (statement_tree trees body.0) body.1))
  on_statement (node.Break at) = subst S (sym (statement.rolls-Break at)) (subst IsSteady (sym (tree.statement-Break trees at)) (λ one other. refl))
  on_statement (node.Continue at) = subst S (sym (statement.rolls-Continue at)) (subst IsSteady (sym (tree.statement-Continue trees at)) (λ one other. refl))
  on_statement (node.Return at value) = subst S (sym (statement.rolls-Return at value)) (subst IsSteady (sym (tree.statement-Return trees at value)) (λ one other. refl))

  on_statements : (ys : List SS) (one other : ℕ)
      → costs_of (trees_from (trees_along (map (statement_tree trees) (map (λ (e : SS). e.0) ys)) one))
      ≡ costs_of (trees_from (trees_along (map (statement_tree trees) (map (λ (e : SS). e.0) ys)) other))
  on_statements [] one other = refl
  on_statements (y ∷ ys) one other =
      omega (arith, y.1 one other, on_statements ys (statement_tree trees y.0 one).next (statement_tree trees y.0 other).next)

  on_block : (y : node.TypedBlock-F SS SB) → B (roll-TypedBlock (map-TypedBlock SS SB TypedStmt TypedBlock (λ e. e.0) (λ e. e.0) y))
  on_block y one other =
      let block = roll-TypedBlock (map-TypedBlock SS SB TypedStmt TypedBlock (λ e. e.0) (λ e. e.0) y) in
      let same : costs_of (trees_from (trees_along (map (statement_tree trees) block.stmts) one)) ≡ costs_of (trees_from (trees_along (map (statement_tree trees) block.stmts) other)) = on_statements y.stmts one other in
      omega (arith, ap (λ (t : Numbered). cost_of t.tree) (tree.block-is trees block one), ap (λ (t : Numbered). cost_of t.tree) (tree.block-is trees block other), same)

  pub blocks_are_steady : (block : TypedBlock) → IsSteady (block_tree trees block)
  blocks_are_steady =
      ind-TypedBlock S B (λ x y is. subst (λ z. S (roll-TypedStmt z)) is (on_statement y)) (λ x y is. subst (λ z. B (roll-TypedBlock z)) is (on_block y))
