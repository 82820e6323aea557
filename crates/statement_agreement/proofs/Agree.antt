-- Statements and blocks do what their trees do: one lemma for each constructor.
use Rattle.std.proofs.Common.{◌≡◌, ℕ, ◌+◌, Bool, IsTrue, List, [], ◌∷◌, map, refl, ap, ◌∙◌}
use Rattle.std.specs.Prelude.{ℤ, Option, Some, None, slice_get}
use Rattle.sat_base.specs.declared.name.At.{At}
use Rattle.c_typed.specs.declared.expression.TypedExpr.{TypedExpr}
use Rattle.c_typed.specs.declared.simple.TypedSimple.{TypedSimple}
use Rattle.c_typed.specs.declared.statement.TypedBlock.{TypedBlock}
use Rattle.c_typed.specs.declared.statement.TypedStmt.{TypedStmt}
use Rattle.c_typed.specs.declared.statement.TypedStmt.TheVariants as statement
use Rattle.source_runs.specs.declared.halt.Flow.{Flow}
use Rattle.source_runs.specs.declared.halt.Flow.TheVariants.{Normal}
use Rattle.source_runs.specs.Runs.{Run, gives, ◌>>=◌, ◌>>◌, choosing, all_of}
use Rattle.source_runs.specs.Loops.{in_sequence, turns_of, looping}
use Rattle.typed_meaning.specs.Expressions.{Setting, Called, expression_meaning}
use Rattle.typed_meaning.specs.Statements as source
use Rattle.typed_meaning.specs.Statements.{option_of, condition_or_one, return_meaning, starting}
use Rattle.typed_meaning.proofs.Statements as meaning
use Rattle.ir_arena.specs.Tree.{IrTree, trees_from}
use Rattle.tree_meaning.specs.Parts.{NodeMeaning}
use Rattle.tree_meaning.specs.Trees.{node_meaning, node_meanings, statement_meaning}
use Rattle.source_trees.specs.Expressions.{TreeSetting, expression_tree}
use Rattle.source_trees.specs.Statements.{first_object, simple_tree, conditions, statement_tree, block_tree, trees_along}
use Rattle.source_trees.proofs.Statements as built
use Rattle.tree_agreement.specs.Agreement.{Renumbers, trees_for}
use Rattle.tree_agreement.specs.Lawful.{all_hold, expression_fits}
use Rattle.tree_agreement.proofs.Whole.{expression_agrees}
use Rattle.statement_agreement.specs.Lawful.{follow, start_fits, fits_where, simple_fits}
use Rattle.statement_agreement.specs.Agreement.{Changes}
use Rattle.statement_agreement.proofs.Simples.{simples_agree}
use Rattle.statement_agreement.proofs.Blocks.{openings_agree}

module _ (here : Setting) (numbers : List ℕ) (called tree_called : Called) (defined : ℕ → Bool) (renumbers : Renumbers defined numbers called tree_called) where
  abbrev forest : TreeSetting
  forest = trees_for here numbers

  abbrev value_of : IrTree → Run ℤ
  value_of tree = (node_meaning here tree_called tree).value

  abbrev flow_of : IrTree → Run Flow
  flow_of tree = statement_meaning here tree_called tree

  abbrev Same : TypedExpr → Type 0
  Same e = value_of (expression_tree forest e) ≡ expression_meaning here called e

  abbrev pub Does : TypedStmt → Type 0
  Does stmt = (next : ℕ) → flow_of (statement_tree forest stmt next).tree ≡ source.statement_meaning here called stmt

  abbrev pub DoesBlock : TypedBlock → Type 0
  DoesBlock block = (next : ℕ) → flow_of (block_tree forest block next).tree ≡ source.block_meaning here called block

  -- a value that may be missing
  value_where : (value : Option TypedExpr) → IsTrue (fits_where (option_of (expression_fits defined) value))
      → slice_get (map (λ (part : NodeMeaning). part.value) (node_meanings here tree_called (conditions forest value))) 0 ≡ option_of (expression_meaning here called) value
  value_where None fits = refl
  value_where (Some e) fits = ap (λ (run : Run ℤ). Some run) (expression_agrees here numbers called tree_called defined renumbers e fits).value

  pub agree-Empty : (at : At) → Does (statement.Empty at)
  agree-Empty at next = rw (built.statement-Empty, meaning.statement-Empty) refl

  pub agree-Block : (block : TypedBlock) → DoesBlock block → Does (statement.Block block)
  agree-Block block same next = rw (built.statement-Block, meaning.statement-Block) (same next)

  pub agree-Simple : (simple : TypedSimple) → Changes here tree_called (simple_tree forest simple) (source.simple_meaning here called simple) → Does (statement.Simple simple)
  agree-Simple simple same next = rw (built.statement-Simple, meaning.statement-Simple) same.flow

  pub agree-If : (at : At) (cond : TypedExpr) (this : TypedStmt) → Same cond → Does this → Does (statement.If at cond this None)
  agree-If at cond this holds same next =
      rw (built.statement-If, meaning.statement-If)
      (ap (λ (run : Run ℤ). choosing run (flow_of (statement_tree forest this next).tree) (gives Normal)) holds
      ∙ ap (λ (run : Run Flow). choosing (expression_meaning here called cond) run (gives Normal)) (same next))

  pub agree-Else : (at : At) (cond : TypedExpr) (this other : TypedStmt) → Same cond → Does this → Does other → Does (statement.If at cond this (Some other))
  agree-Else at cond this other holds same same_other next =
      rw (built.statement-Else, meaning.statement-Else)
      (ap (λ (run : Run ℤ). choosing run (flow_of (statement_tree forest this next).tree) (flow_of (statement_tree forest other (statement_tree forest this next).next).tree)) holds
      ∙ ap (λ (run : Run Flow). choosing (expression_meaning here called cond) run (flow_of (statement_tree forest other (statement_tree forest this next).next).tree)) (same next)
      ∙ ap (λ (run : Run Flow). choosing (expression_meaning here called cond) (source.statement_meaning here called this) run) (same_other (statement_tree forest this next).next))

  pub agree-While : (at : At) (cond : TypedExpr) (body : TypedStmt) → Same cond → Does body → Does (statement.While at cond body)
  unfolding all_of ◌>>◌ ◌>>=◌
  agree-While at cond body holds same next =
      rw (built.statement-While, meaning.statement-While)
      (ap (λ (run : Run ℤ). looping here.turns run (gives tt) (flow_of (statement_tree forest body (next + 1)).tree)) holds
      ∙ ap (λ (run : Run Flow). looping here.turns (expression_meaning here called cond) (gives tt) run) (same (next + 1)))

  pub agree-Do : (at : At) (body : TypedStmt) (cond : TypedExpr) → Same cond → Does body → Does (statement.Do at body cond)
  unfolding all_of ◌>>◌ ◌>>=◌
  agree-Do at body cond holds same next =
      rw (built.statement-Do, meaning.statement-Do)
      (ap (λ (run : Run ℤ). turns_of here.turns run (gives tt) (flow_of (statement_tree forest body (next + 1)).tree)) holds
      ∙ ap (λ (run : Run Flow). turns_of here.turns (expression_meaning here called cond) (gives tt) run) (same (next + 1)))

  pub agree-For : (at : At) (first : List TypedSimple) (cond : Option TypedExpr) (last : List TypedSimple) (body : TypedStmt)
      → IsTrue (all_hold (map (simple_fits defined) first)) → IsTrue (fits_where (option_of (expression_fits defined) cond)) → IsTrue (all_hold (map (simple_fits defined) last))
      → Does body → Does (statement.For at first cond last body)
  agree-For at first cond last body firsts conds lasts same next =
      rw (built.statement-For, meaning.statement-For)
      (ap (λ (runs : List (Run (Unit {0}))). all_of runs >> looping here.turns (condition_or_one (slice_get (map (λ (part : NodeMeaning). part.value) (node_meanings here tree_called (conditions forest cond))) 0))
      (all_of (map (λ (part : NodeMeaning). part.change) (node_meanings here tree_called (trees_from (map (simple_tree forest) last))))) (flow_of (statement_tree forest body (next + 1)).tree))
      (simples_agree here numbers called tree_called defined renumbers first firsts)
      ∙ ap (λ (run : Option (Run ℤ)). all_of (map (source.simple_meaning here called) first) >> looping here.turns (condition_or_one run)
      (all_of (map (λ (part : NodeMeaning). part.change) (node_meanings here tree_called (trees_from (map (simple_tree forest) last))))) (flow_of (statement_tree forest body (next + 1)).tree))
      (value_where cond conds)
      ∙ ap (λ (runs : List (Run (Unit {0}))). all_of (map (source.simple_meaning here called) first) >> looping here.turns (condition_or_one (option_of (expression_meaning here called) cond)) (all_of runs) (flow_of (statement_tree forest body (next + 1)).tree))
      (simples_agree here numbers called tree_called defined renumbers last lasts)
      ∙ ap (λ (run : Run Flow). all_of (map (source.simple_meaning here called) first) >> looping here.turns (condition_or_one (option_of (expression_meaning here called) cond)) (all_of (map (source.simple_meaning here called) last)) run)
      (same (next + 1)))

  pub agree-Break : (at : At) → Does (statement.Break at)
  agree-Break at next = rw (built.statement-Break, meaning.statement-Break) refl

  pub agree-Continue : (at : At) → Does (statement.Continue at)
  agree-Continue at next = rw (built.statement-Continue, meaning.statement-Continue) refl

  pub agree-Return : (at : At) (value : Option TypedExpr) → IsTrue (fits_where (option_of (expression_fits defined) value)) → Does (statement.Return at value)
  agree-Return at value fits next = rw (built.statement-Return, meaning.statement-Return) (ap return_meaning (value_where value fits))

  -- ---- blocks

  pub data EachDoes : List TypedStmt → Type 0 where
    none : EachDoes []
    next : {stmt : TypedStmt} {stmts : List TypedStmt} → Does stmt → EachDoes stmts → EachDoes (stmt ∷ stmts)

  flows_agree : (stmts : List TypedStmt) → EachDoes stmts → (number : ℕ)
      → map (λ (part : NodeMeaning). part.flow) (node_meanings here tree_called (trees_from (trees_along (map (statement_tree forest) stmts) number))) ≡ map (source.statement_meaning here called) stmts
  flows_agree [] none number = refl
  flows_agree (stmt ∷ stmts) (next first rest) number =
      ap (λ (run : Run Flow). run ∷ map (λ (part : NodeMeaning). part.flow) (node_meanings here tree_called (trees_from (trees_along (map (statement_tree forest) stmts) (statement_tree forest stmt number).next)))) (first number)
      ∙ ap (λ (runs : List (Run Flow)). source.statement_meaning here called stmt ∷ runs) (flows_agree stmts rest (statement_tree forest stmt number).next)

  pub agree-block : (block : TypedBlock) → IsTrue (follow (first_object block.objects) block.objects) → IsTrue (all_hold (map (start_fits defined) block.objects))
      → EachDoes block.stmts → DoesBlock block
  agree-block block later starts each number =
      rw (built.block-is, meaning.block-is)
      (ap (λ (runs : List (Run (Unit {0}))). all_of runs >> in_sequence (map (λ (part : NodeMeaning). part.flow) (node_meanings here tree_called (trees_from (trees_along (map (statement_tree forest) block.stmts) number)))))
      (openings_agree here numbers called tree_called defined renumbers block.objects (first_object block.objects) later starts)
      ∙ ap (λ (runs : List (Run Flow)). all_of (map (starting here called) block.objects) >> in_sequence runs) (flows_agree block.stmts each number))
